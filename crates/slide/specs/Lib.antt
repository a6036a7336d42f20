-- Laws of sliding windows, over the reference model's definitions: what one sample more does to a window.
pub mod Conditions
pub mod Ordered
pub mod Percentile
pub mod Step
pub mod Undisplaced
pub mod Held
pub mod Moves
pub mod Readings
