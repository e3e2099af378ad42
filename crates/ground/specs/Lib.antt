-- What the definitions of every crate share.
pub mod Choices
pub mod Sizes
pub mod Lists
pub mod Pieces
