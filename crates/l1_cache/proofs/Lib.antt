pub mod Copies
pub mod Empty
pub mod Entered
pub mod Instructions
pub mod Private
pub mod Table
pub mod Views
