pub mod Spectra
pub mod Floats
pub mod Measures
pub mod Sizes
