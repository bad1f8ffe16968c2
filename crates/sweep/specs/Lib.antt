-- What contracts cite. What is proved of it is below `laws`.
pub mod Columns
pub mod Points
pub mod Sweep
pub mod Crossings
pub mod laws
