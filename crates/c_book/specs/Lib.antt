-- The definitions of the calls on plain books at the C edge. Assumes nothing.
pub mod Books
