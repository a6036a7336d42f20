pub mod Hole
pub mod Store
