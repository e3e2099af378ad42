-- What the contracts of a share are stated with.
pub mod Shares
