pub mod Alike
mod AloneSteps
mod AllShards
pub mod Branches
pub mod FetchedNext
mod HitTurns
mod LedOn
pub mod Meeting
mod MetBehindHits
pub mod NewShards
pub mod PartsPorts
pub mod ShardPorts
pub mod ShardsStay
pub mod TheseTurns
mod ToldAlone
mod ToldTurns
pub mod Turns
