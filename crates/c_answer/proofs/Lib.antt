-- The laws of what the calls of the C edge answer.
pub mod Lacking
