-- The claims, proved: laws of one call and of lists of calls, what they leave in the lent buffers, what a closing stores, demands 1 to 3,
-- and the worked cases.
pub mod Calls
pub mod Demand1
pub mod Taken
pub mod Runs
pub mod Listed
pub mod Plain
pub mod Names
pub mod Entries
pub mod Steps
pub mod Lookups
pub mod Again
pub mod Closings
pub mod Demand2
pub mod Uses
pub mod Rewritten
pub mod Records
pub mod Demand3
pub mod Worked
