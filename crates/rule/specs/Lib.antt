pub mod TallyRules
pub mod Bounds
