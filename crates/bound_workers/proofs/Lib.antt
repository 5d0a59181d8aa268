mod Running
mod Rows
mod Sharing
mod Shares
mod Returns
mod Whole
mod Ending
mod Turns
mod Asking
mod Keeping
mod BoundHistory
mod BoundLists
mod BoundSeats
mod BoundServed
mod BoundTurns
pub mod Sending
mod OfOneKind
mod Giving
