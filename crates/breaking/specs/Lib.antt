-- What contracts cite. What is proved of it is below `laws`.
pub mod Breaking
pub mod Doubles
pub mod Promise
pub mod laws
