-- The general laws that every proof cites, and those of the sizes and of pieces.
pub mod Laws
pub mod Sizes
pub mod Firsts
pub mod Fills
pub mod Turns
pub mod Pieces
pub mod Unique
