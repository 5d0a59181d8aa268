pub mod Replay
pub mod Laws
pub use Rattle.reference.specs.Results
pub use Rattle.reference.specs.ReferenceRun
pub use Rattle.reference.specs.RunEvents
pub use Rattle.run.specs.Recording
