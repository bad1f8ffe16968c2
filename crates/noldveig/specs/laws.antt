pub mod Rows
pub mod RowsLaw
