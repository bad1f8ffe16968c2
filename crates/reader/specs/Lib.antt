-- What contracts cite. What is proved of it is below `laws`.
pub mod File
pub mod Editions
pub mod Stretches
pub mod Collected
pub mod Parts
pub mod laws
