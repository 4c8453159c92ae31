pub mod Faults
pub mod Kept
pub mod Calls
