-- One step, in the order in which data walks through it; then the words that the demands are stated in.
pub mod Insns
pub mod Benches
pub mod Answers
pub mod Terms
pub mod Plans
pub mod Lanes
pub mod Inside
pub mod Outcomes
pub mod Step
pub mod Said
pub mod Demand1
pub mod Demand2
pub mod Demand3
pub mod Asks
