-- Laws of a listing as a struct. Assumes nothing.
pub mod States
