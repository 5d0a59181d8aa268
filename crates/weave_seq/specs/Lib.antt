pub mod ByCore
pub mod Chains
pub mod Known
pub mod Order
pub mod SoFar
