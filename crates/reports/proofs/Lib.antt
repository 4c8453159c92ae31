pub mod LnFits
pub mod MadeRows
