-- The calls at the C edge are those of the claims, and demands 2 and 3 over them.
pub mod Edge
pub mod EdgeDemand2
pub mod EdgeDemand3
