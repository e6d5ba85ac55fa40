-- The definitions of the claims: the calls and the buffers that they are lent, what refusals leave, what calls build,
-- the reading steps, lookup, demand 2 with a whole use and what is written again, demand 3, and the paper's worked
-- cases. Assumes nothing.
pub mod Calls
pub mod Demand1
pub mod Built
pub mod Steps
pub mod Lookups
pub mod Demand2
pub mod Uses
pub mod Rewritten
pub mod Demand3
pub mod Worked
