pub mod Chunks
pub mod FirstBytes
pub mod HomeState
pub mod Layout
pub mod Lines
pub mod NewHome
pub mod RowChunks
pub mod Rows
