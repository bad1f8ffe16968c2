-- What contracts cite. What is proved of it is below `laws`.
pub mod Limits
pub mod Grid
pub mod Converters
pub mod Shares
pub mod Ways
pub mod laws
