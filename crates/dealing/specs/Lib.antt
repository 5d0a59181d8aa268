pub mod Dealing
pub mod Laws
pub mod Workers
