-- What a record's bytes say, as document 01 has it.
pub mod Fields
