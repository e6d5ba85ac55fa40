-- What the claims at the C edge say of the functions. Assumes nothing.
pub mod Tied
