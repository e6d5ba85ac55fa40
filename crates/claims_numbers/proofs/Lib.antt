-- Every refusal has a number of the table, and what a call at the C edge returns.
pub mod Payloads
pub mod Numbers
