-- The byte format of docs/CASES.md: a case, an outcome, and what is answered; the same from the writing side; and what the contracts inside the
-- crate name.
pub mod Parts
pub mod Heads
pub mod Outcomes
pub mod Windows
pub mod Answers
pub mod Packs
pub mod Inside
