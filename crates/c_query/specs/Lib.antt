-- The definitions of the choice of blocks and the label at the C edge. Assumes nothing.
pub mod Query
pub mod Label
