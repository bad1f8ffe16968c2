pub mod Stretches
pub mod Collected
pub mod FileAsCalls
pub mod RowLetters
pub mod Editions
pub mod EditionSentences
