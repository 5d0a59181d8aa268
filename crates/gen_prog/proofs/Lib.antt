pub mod Encodable
pub mod Image
pub mod Loading
