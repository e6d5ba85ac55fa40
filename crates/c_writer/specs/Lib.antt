-- The definitions of the writer's calls at the C edge. Assumes nothing.
pub mod State
pub mod Answers
