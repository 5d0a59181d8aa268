pub mod Appended
pub mod Fields
pub mod Written
pub mod Table
pub mod Checks
pub mod RoundTrip
