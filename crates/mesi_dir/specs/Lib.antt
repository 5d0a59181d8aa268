pub mod CoreSets
pub mod LineMap
pub mod Rows
