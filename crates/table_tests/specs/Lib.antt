pub mod PartsTested
pub mod Tested
