-- One sample more in a window's count, sum and values in order.
pub mod Change
