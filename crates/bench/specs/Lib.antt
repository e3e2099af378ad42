-- What the contract of `step` is stated with; Inside, and what stands below it, serves proofs alone.
pub mod Lends
pub mod Inside
