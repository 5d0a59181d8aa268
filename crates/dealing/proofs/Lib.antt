mod Shares
mod Steps
mod Stays
mod Changes
mod OfWorkers
