pub mod Effects
pub mod Damaged
