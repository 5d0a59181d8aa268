pub mod ReportText
pub mod Laws
