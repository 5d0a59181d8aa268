pub mod FileLengths
pub mod Lists
pub mod Numbers
pub mod ReadAndWritten
pub mod WrittenAndRead
