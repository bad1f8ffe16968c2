pub mod Numbers
pub mod Tables
pub mod FigureSums
pub mod Amperes
pub mod Laid
pub mod Sources
pub mod Promise
pub mod Worked
