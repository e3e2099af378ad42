-- The laws of the byte format.
pub mod Lends
pub mod Limits
pub mod Unique
pub mod Cuts
pub mod Flags
pub mod Opens
pub mod Unpacks
pub mod Repacks
pub mod Lengths
pub mod Packs
pub mod Shown
