-- The laws of opening at the C edge.
pub mod Stores
pub mod Opens
