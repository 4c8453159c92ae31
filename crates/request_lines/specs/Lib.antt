pub mod RequestText
