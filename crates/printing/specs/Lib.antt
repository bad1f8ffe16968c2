-- What contracts cite. What is proved of it is below `laws`.
pub mod Printed
pub mod Line
pub mod laws
