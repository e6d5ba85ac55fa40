-- The definitions of a listing in numbers. Assumes nothing.
pub mod Listing
