mod AccessSteps
mod AllEvents
mod BetweenFirings
mod ByComponent
mod ByCore
mod CriticalSteps
pub mod FindFired
mod Fitting
mod FromEntries
mod Growth
mod InARow
mod Indices
mod Kept
mod LastByCore
mod LastKept
pub mod Least
pub mod Lists
mod MachineGrowth
mod MadeOfPieces
mod Once
mod Order
mod Placed
mod PlainCounts
mod PlainFits
mod Progress
mod Ranks
mod Renumbered
mod SameByCore
mod SmallSteps
mod Solves
mod Theorem
mod Timely
mod FloorsFit
mod Turns
mod Unique
