-- The definitions of the numbers that refusals have. Assumes nothing.
pub mod Numbers
