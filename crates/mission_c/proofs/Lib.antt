-- The promises of the calls for C are what the claims say of them.
pub mod Ties
