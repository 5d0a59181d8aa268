mod Walks
mod Kept
mod Logs
mod Ordered
mod Steps
mod Walk
mod InTurns
mod Stretches
mod Cleared
pub mod Restamps
