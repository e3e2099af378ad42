-- What the contracts of a line are stated with.
pub mod Lines
