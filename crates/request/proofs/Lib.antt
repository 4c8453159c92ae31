pub mod Tests
pub mod OriginLaws
