pub mod Decimals
pub mod Hex
pub mod Signs
pub mod Fitting
pub mod Fours
