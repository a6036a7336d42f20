-- The state area: its layout, the trip that it stands for, and what the functions on its parts do.
pub mod Layout
pub mod Stands
pub mod Effects
pub mod Head
