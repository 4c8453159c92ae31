pub mod Equations
pub mod Fixed
pub mod Accuracy
pub mod Rows
pub mod FineNear
