pub mod Counting
pub mod NextCounted
pub mod Sound
pub mod Sums
