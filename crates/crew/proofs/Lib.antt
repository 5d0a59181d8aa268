mod Calls
mod Seated
mod Sharing
mod Stepping
