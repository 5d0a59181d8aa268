pub mod Arithmetic
pub mod Atomic
pub mod Branch
pub mod Computing
pub mod Laws
pub mod Operations
