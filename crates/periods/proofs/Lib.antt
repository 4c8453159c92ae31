pub mod Reaching
pub mod LineFits
