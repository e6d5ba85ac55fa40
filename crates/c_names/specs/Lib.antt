-- The definitions of the calls on plain dictionaries at the C edge. Assumes nothing.
pub mod Names
