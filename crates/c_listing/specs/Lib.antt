-- The definitions of the listing at the C edge. Assumes nothing.
pub mod Answers
