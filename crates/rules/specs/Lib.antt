pub mod Rules
pub mod Fixed
