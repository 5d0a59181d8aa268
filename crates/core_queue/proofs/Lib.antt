mod Keys
mod Leaves
mod Walks
