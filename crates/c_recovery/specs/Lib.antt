-- The definitions of recovery and repair at the C edge. Assumes nothing.
pub mod Recover
pub mod Repair
