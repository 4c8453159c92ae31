pub mod Geometry
pub mod Fixed
