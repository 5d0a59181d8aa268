pub mod Member
pub mod Crew
pub mod Shares
pub mod Bounds
pub mod Laws
