pub mod RowLaws
pub mod SheetLaws
pub mod LongestAnswer
pub mod SomeAnswer
pub mod AnswerExamples
