pub mod SortedKeys
pub mod Heap
