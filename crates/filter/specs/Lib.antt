pub mod Output
pub mod Turns
