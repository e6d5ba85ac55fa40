-- The definitions of what the calls at the C edge must hold to. Assumes nothing.
pub mod Edge
pub mod EdgeDemand2
pub mod EdgeDemand3
