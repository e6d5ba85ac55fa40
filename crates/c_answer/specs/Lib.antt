-- The definitions of what the calls of the C edge answer. Assumes nothing.
pub mod Answer
