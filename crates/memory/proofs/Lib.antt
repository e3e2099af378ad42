-- What the proofs of this crate share, and its laws.
pub mod Places
pub mod Turns
pub mod Moves
pub mod Looks
pub mod Alike
pub mod Pairs
pub mod Elements
pub mod Accepts
pub mod Windows
pub mod Promises
pub mod Unique
