-- What the lane window's contracts cite, and document 01's words for it.
pub mod Lanes
pub mod Said
pub mod Inside
