pub mod PlaceLaws
pub mod LineLaws
pub mod SpectrumLaws
pub mod RecordRows
pub mod OneAnswer
