pub mod ByCore
pub mod Chunks
pub mod Laws
pub mod Next
pub mod Sparse
