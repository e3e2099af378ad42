-- What the contract of `kjolvast_step` is stated with.
pub mod Hosts
