pub mod File
pub mod Writable
