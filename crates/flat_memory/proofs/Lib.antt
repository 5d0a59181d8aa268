pub mod AfterWrite
pub mod Accesses
pub mod Reservations
