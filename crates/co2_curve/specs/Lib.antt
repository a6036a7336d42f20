pub mod Read
pub mod Bounds
pub mod Lines
pub mod Sound
pub mod Points
