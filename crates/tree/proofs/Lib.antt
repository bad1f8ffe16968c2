-- Laws of the converters' part. They stand here so that rt reads an edit of Grid, on which they rest, as the refusal that it is.
pub mod ConvertersByRoot
pub mod CurrentErrors
