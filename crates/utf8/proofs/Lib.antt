-- The laws.
pub mod Tables
pub mod Laws
pub mod Grammar
pub mod Steps
pub mod Windows
pub mod Runs
