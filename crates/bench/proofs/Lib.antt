-- What the proofs of the step share.
pub mod Lends
pub mod Small
pub mod Turns
pub mod Digits
pub mod Files
pub mod Copies
pub mod Together
pub mod Many
pub mod Lanes
pub mod Own
pub mod Registers
pub mod Repeats
pub mod Nothing
pub mod Alike
pub mod Ends
