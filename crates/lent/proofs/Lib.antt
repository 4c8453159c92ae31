pub mod PutLaws
pub mod WroteLaws
pub mod PartLaws
pub mod LeftLaws
