pub mod CanonicalNumber
pub mod FieldBack
pub mod LineBack
pub mod RestLaws
