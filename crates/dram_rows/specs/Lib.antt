pub mod Conditions
pub mod OpenRows
pub mod Served
