pub mod TakenApart
pub mod ByCore
pub mod ByHistory
mod ByTurns
mod Chained
mod Counted
pub mod InOrder
mod KeptInTurns
pub mod Lists
mod OneMore
pub mod SameCores
mod TakingHits
mod TakingTurns
pub mod Turns
mod TurnsBegin
pub mod Whole
