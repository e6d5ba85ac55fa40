-- The definitions of the reading steps at the C edge. Assumes nothing.
pub mod Steps
