pub mod RecordedOrder
pub mod History
pub mod Laws
pub mod Logs
pub mod Schedule
