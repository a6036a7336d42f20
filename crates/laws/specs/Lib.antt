-- Laws of what the definitions are written with: lists, tests, the order of the integers, sums, signed numbers that fit a width.
pub mod Lists
pub mod Tests
pub mod Order
pub mod Sums
pub mod Signed
pub mod Functions
