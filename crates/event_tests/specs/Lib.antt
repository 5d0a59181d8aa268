pub mod Pair
pub mod TwoMisses
