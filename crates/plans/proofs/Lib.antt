-- What the proofs of the plans share, and the laws of `prepare`.
pub mod Bounds
pub mod Prepares
pub mod Shapes
