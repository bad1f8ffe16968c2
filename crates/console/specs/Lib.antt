-- What contracts cite. What is proved of it is below `laws`.
pub mod Answers
pub mod Lines
pub mod Effects
pub mod laws
