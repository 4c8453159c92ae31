pub mod TurnLaws
pub mod WholeOutput
