-- The laws of varints. Assumes nothing.
pub mod Answers
pub mod Codec
pub mod Decoding
pub mod Encoding
pub mod Lengths
