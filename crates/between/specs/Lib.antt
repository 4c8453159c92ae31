pub mod Periods
pub mod Fixed
