-- The claims as one record, and what they say of the functions. Assumes nothing.
pub mod Tied
pub mod Mission
