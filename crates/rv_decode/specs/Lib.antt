pub mod Fields
pub mod InstructionWord
pub mod Names
pub mod Opcodes
pub mod InstructionTable
pub mod Matching
pub mod NamedRows
pub mod Ranges
