-- The laws of the lane window.
pub mod Patterns
pub mod Tests
pub mod Places
pub mod Windows
pub mod Determined
