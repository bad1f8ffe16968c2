-- What contracts cite. What is proved of it is below `laws`.
pub mod Exact
pub mod Fraction
pub mod Doubles
pub mod laws
