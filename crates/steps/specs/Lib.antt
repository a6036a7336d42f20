pub mod Step
pub mod Trace
pub mod Laws
pub mod Refusals
pub mod Accepted
