pub mod Assembly
pub mod Encodable
pub mod Generated
pub mod Laws
pub mod Loaded
