-- The two areas of the bench, and what an address finds there.
pub mod Addresses
pub mod Areas
pub mod Bytes
pub mod Elements
pub mod Windows
pub mod Said
pub mod Troubles
