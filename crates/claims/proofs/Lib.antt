-- Every theorem that a reader is told of, at its full type, cited from its own file: a file for each crate, and one for each demand. An entry has a name, a
-- type and the theorem, by its whole path. Nothing else is declared here, and nothing is assumed: `.ci/statements` holds the files to that form.
pub mod Ground
pub mod Words
pub mod Memory
pub mod Demand1
pub mod Demand2
pub mod Demand3
pub mod Steps
pub mod Plans
pub mod Lanes
pub mod Bench
pub mod Hosts
pub mod Texts
pub mod Cases
pub mod Telling
pub mod Shares
