-- The stores of a file, the disk that a cut leaves, and what is stored in full. Assumes nothing.
pub mod Disk
