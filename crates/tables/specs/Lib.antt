pub mod Tables
pub mod OfTables
pub mod Totals
