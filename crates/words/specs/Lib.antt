-- Which word is which load.
pub mod Dtypes
pub mod Insns
pub mod Families
pub mod Layouts
pub mod Ranges
