pub mod Figures
pub mod Refusals
pub mod Answers
pub mod SentBack
pub mod Forgotten
pub mod Stages
