pub mod KeyOrder
pub mod Request
pub mod Pairing
pub mod PairedRight
pub mod Servable
