-- What `prepare` promises, and what its plans are.
pub mod Prepares
pub mod Inside
pub mod Spreads
