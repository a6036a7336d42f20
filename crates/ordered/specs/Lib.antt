-- A store of values in order, over slide's laws of lists in order.
pub mod Kept
