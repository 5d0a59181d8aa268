pub mod FlatMemory
pub mod Laws
