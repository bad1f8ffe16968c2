-- What contracts cite. What is proved of it is below `laws`.
pub mod Factors
pub mod BreakingFactor
pub mod Doubles
pub mod Peak
pub mod Impedance
pub mod laws
