pub mod Coming
pub mod Decoded
pub mod Falling
pub mod Flows
pub mod Served
pub mod Slots
pub mod Telling
pub mod Tries
