pub mod Calls
pub mod CoreSets
pub mod Maps
pub mod Places
pub mod Rows
