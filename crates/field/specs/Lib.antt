-- Fields of a list of bytes: parts and puts, little-endian numbers, and arrays of cells.
pub mod Part
pub mod Le
pub mod Cells
pub mod Twos
