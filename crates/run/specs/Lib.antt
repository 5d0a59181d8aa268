pub mod IntervalWeave
pub mod Recording
pub mod Records
pub mod Simulation
pub mod Going
pub mod Waiting
