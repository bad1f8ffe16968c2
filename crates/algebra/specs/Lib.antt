pub mod Polynomial
pub mod Reading
