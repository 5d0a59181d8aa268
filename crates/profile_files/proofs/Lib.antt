mod Added
mod Runs
mod Sorting
mod StableOrder
