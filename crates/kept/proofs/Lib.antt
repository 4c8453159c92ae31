pub mod KeptLaws
pub mod TellLaws
pub mod ServedWhole
