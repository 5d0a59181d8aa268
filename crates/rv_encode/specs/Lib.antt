pub mod Encoding
pub use Rattle.rv_decode.specs.InstructionTable
pub use Rattle.rv_decode.specs.NamedRows
pub use Rattle.rv_decode.specs.Ranges
