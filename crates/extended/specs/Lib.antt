pub mod Bounds
pub mod Limit
