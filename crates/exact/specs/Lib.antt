pub mod Series
pub mod Root
pub mod Exact
pub mod Near
pub mod Laws
