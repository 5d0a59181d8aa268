pub mod Apart
pub mod CoreRuns
pub mod Counted
pub mod Intervals
pub mod Recorders
pub mod Turns
