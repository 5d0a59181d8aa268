pub mod Adding
pub mod Bits
pub mod StepsMore
