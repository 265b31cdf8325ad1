mod TablesShown
mod AnswerKnown
pub mod TextCases
