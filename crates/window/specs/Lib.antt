-- The sliding windows: what their part stands for, one slot's step, and the sweep over all slots.
pub mod Stand
pub mod Slot
pub mod Sweep
