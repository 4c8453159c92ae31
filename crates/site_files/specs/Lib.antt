pub mod Format
pub mod Given
