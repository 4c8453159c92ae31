pub mod LnTwos
pub mod LeftOut
pub mod SignedLaws
pub mod LnNear
pub mod LnNarrow
pub mod ExpNear
pub mod Growing
pub mod SineNear
