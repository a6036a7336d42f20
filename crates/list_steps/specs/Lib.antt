-- One sample more for a slot's list of held entries.
pub mod Steps
