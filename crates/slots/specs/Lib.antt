-- The windows' part of the state area.
pub mod Layout
pub mod Effects
