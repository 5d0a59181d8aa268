pub mod Accepted
pub mod Documents
pub mod Least
pub mod Links
pub mod Naturals
pub mod Passed
pub mod PlainText
pub mod Valid
