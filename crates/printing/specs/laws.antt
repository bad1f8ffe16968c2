pub mod Printed
pub mod Line
pub mod WholePrinted
