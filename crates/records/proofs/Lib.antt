pub mod NumberBack
pub mod ByteForms
pub mod FieldBack
pub mod RecordBack
pub mod FieldByField
