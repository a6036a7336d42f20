mod Output
mod Block
mod Join
