pub mod HeldLaws
pub mod StandLaws
pub mod PartLaws
pub mod CloseLaws
pub mod Progress
pub mod WholeList
