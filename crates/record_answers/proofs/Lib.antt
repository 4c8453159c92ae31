pub mod ReplyLaws
pub mod RecordByRecord
