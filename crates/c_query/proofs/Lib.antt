-- The laws of the choice of blocks and the label at the C edge.
pub mod Stores
pub mod Queries
pub mod Labels
