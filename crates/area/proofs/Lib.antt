pub mod Effects
pub mod Apart
