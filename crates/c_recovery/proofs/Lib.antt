-- The laws of recovery and repair at the C edge.
pub mod Stores
pub mod Recovers
pub mod Repairs
