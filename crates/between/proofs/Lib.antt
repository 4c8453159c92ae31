pub mod Line
pub mod LineNear
pub mod Weight
pub mod Gaps
pub mod Sigma
pub mod Accurate
pub mod Tabulated
pub mod Sizes
