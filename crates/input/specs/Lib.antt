-- What the contract of reading cites.
pub mod Input
