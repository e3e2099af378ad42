-- What the contracts of a text are stated with.
pub mod Texts
