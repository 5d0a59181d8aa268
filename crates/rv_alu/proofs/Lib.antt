pub mod Division
pub mod Residues
pub mod Wrapping
