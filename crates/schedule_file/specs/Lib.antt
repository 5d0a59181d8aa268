pub mod Answers
pub mod ScheduleFile
pub mod Laws
