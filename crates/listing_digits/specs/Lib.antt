-- The definitions of numbers and bytes as text. Assumes nothing.
pub mod Digits
pub mod Inner
