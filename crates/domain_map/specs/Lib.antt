pub mod Domains
pub mod Inside
