-- Scripts: lists of calls as bytes.
pub mod Script
pub mod Kind
pub mod Next
pub mod Place
pub mod Encoded
