-- The definitions of the calls on one block at the C edge. Assumes nothing.
pub mod Block
pub mod Header
