pub mod LineLaws
pub mod RoundTrip
