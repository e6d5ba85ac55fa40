-- The definitions of opening at the C edge. Assumes nothing.
pub mod Open
