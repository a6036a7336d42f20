pub mod Floor
pub mod Nearest
