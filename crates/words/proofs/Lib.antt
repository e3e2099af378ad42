-- The laws of the two tables.
pub mod Ranges
pub mod DtypeRule
pub mod Unique
pub mod Apart
pub mod Grown
pub mod Layouts
pub mod Written
pub mod Decodes
pub mod NotWanted
