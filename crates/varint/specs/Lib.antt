-- The definitions of varints. Assumes nothing.
pub mod Varint
pub mod Answer
