pub mod Inside
pub mod Rule
pub mod Seats
