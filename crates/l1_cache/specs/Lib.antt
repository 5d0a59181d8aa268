pub mod L1State
pub mod Layout
