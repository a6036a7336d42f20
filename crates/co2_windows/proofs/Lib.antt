mod Steps
mod Ways
