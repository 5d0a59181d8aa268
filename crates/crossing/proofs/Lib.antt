mod Calls
mod Steps
