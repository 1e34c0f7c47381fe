-- The writers' answers, and the record writer's.
pub mod Answers
pub mod RecordWriter
