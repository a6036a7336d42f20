pub mod Taking
pub mod Outcomes
pub mod Pieces
pub mod Enough
