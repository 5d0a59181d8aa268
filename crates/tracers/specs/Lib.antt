pub mod TwoTold
