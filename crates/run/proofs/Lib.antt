pub mod BoundPhase
pub mod Cores
pub mod GoneOn
pub mod IntervalWeave
pub mod NextInterval
pub mod RecordedOrder
pub mod Recordings
pub mod RunEnds
pub mod RunSoFar
pub mod RecordedChains
pub mod RecordedFacts
pub mod RecordedPhase
pub mod RecordedWeave
pub mod SoundWeave
mod FirstParts
mod Handed
mod Hired
