mod Pairs
mod ReadTimes
pub mod TwoMisses
