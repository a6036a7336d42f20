pub mod Speeds
pub mod Counts
pub mod Dynamics
