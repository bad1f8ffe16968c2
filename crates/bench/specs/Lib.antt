pub mod Queries
pub mod Reports
pub mod Breakings
pub mod Writes
