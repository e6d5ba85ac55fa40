-- The laws of the calls on stored bytes at the C edge.
pub mod Frames
