mod Added
mod ByCounts
mod Events
mod Orders
mod Plus
mod Steps
mod Sums
mod SumsFit
