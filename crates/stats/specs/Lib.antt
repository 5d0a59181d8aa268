pub mod Added
pub mod Counted
pub mod Counts
pub mod CountsFit
pub mod KnownCounts
pub mod Laws
pub mod Passes
pub mod TookTheirTime
