pub mod Pieces
pub mod RecordsBack
pub mod RecordSteps
pub mod HeadBack
pub mod Inverse
pub mod GivenLaws
