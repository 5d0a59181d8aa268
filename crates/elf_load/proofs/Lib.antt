pub mod Lists
pub mod Table
pub mod Fetch
pub mod Refusals
pub mod Sound
pub mod Meanings
pub mod Pairs
pub mod Copies
