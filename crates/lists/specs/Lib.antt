-- The lists of held entries, with counted moves.
pub mod Effects
pub mod Circular
pub mod Lists
