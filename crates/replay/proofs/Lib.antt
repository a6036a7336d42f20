pub mod Dispatch
pub mod Going
