-- Laws of the writer's state as a struct. Assumes nothing.
pub mod Turns
