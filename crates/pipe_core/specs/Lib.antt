pub mod Pace
pub mod PaceLaws
