pub mod Soon
mod Written
