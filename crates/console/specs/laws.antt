pub mod Answers
pub mod AnswersLaw
pub mod Lines
pub mod EffectsLaw
pub mod BreakingAnswers
pub mod ReportAnswers
