-- The laws of what a host is promised.
pub mod Unique
pub mod Told
