pub mod StreamLaws
pub mod EndLaws
