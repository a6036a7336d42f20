pub mod Bound
pub mod Sample
