pub mod Figures
pub mod WidthNear
pub mod TopNear
pub mod BasinNear
pub mod Ranges
pub mod SiteSizes
mod Known
