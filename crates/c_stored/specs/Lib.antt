-- The definitions of the calls on stored bytes at the C edge. Assumes nothing.
pub mod Stored
