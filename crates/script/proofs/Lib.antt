-- What the functions on scripts rest on.
mod Next
pub mod Encoded
