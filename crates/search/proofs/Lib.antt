pub mod Probe
pub mod Search
