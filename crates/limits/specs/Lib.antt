pub mod Table
pub mod Class
pub mod Line
pub mod Bounds
