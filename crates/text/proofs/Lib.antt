pub mod NumberLaws
pub mod FigureLaws
pub mod FieldLaws
pub mod RoundTrip
pub mod NotEstimated
mod LineExamples
