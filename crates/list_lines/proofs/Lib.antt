pub mod LineLaws
pub mod SurveyLaws
pub mod ListBack
