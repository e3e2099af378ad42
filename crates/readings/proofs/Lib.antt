-- The starred readings of document 01, settled as one statement, beside the program that runs the others; and benches for which the demands' premises hold.
pub mod Cases
pub mod Tests
pub mod Tables
pub mod Starred
pub mod Pairs
pub mod Witnesses
pub mod Refusals
pub mod Stacks
