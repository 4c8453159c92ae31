pub mod Fields
pub mod Origins
pub mod Styles
