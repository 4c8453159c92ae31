pub mod Fitting
pub mod Shifts
pub mod LnTerms
pub mod ExpTerms
pub mod SineTerms
