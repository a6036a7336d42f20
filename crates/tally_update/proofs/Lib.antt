mod Raising
mod Adding
