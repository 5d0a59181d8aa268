pub mod Groups
pub mod Numbers
pub mod CallgrindFile
pub mod LinesFile
pub mod SeriesFile
pub mod HaltsFile
