-- The claims, proved as one, and tied to the calls.
pub mod Ties
pub mod Mission
