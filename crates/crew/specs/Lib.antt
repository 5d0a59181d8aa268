pub mod Collects
pub mod Crews
pub mod Rule
pub mod Seats
pub mod Steps
pub mod Sharing
