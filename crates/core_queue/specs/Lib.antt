pub mod NextKeys
pub mod StartKeys
pub mod Minima
