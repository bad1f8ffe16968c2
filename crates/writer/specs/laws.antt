-- From digits to the whole text: that what is written is read as what it was written from, and how long it is; then what `write` lays
-- into a buffer.
pub mod Text
pub mod Each
pub mod TextRows
pub mod Decimals
pub mod Separators
pub mod RowRead
pub mod TextLength
pub mod RecordDigits
pub mod TextFits
pub mod TextRead
pub mod Laying
pub mod WriteCases
pub mod ReadBackLaw
pub mod ReadBackSentences
