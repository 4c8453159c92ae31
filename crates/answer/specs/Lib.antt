pub mod RowLines
pub mod Sheets
