pub mod Held
pub mod Percentile
pub mod Step
