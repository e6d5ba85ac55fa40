-- The laws of the calls on one block at the C edge.
pub mod Blocks
pub mod Headers
