pub mod Begun
pub mod Later
pub mod Looked
pub mod OneMore
pub mod Profiles
pub mod Said
pub mod SimpleOptions
