pub mod Printed
pub mod RowsRead
