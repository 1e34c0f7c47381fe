-- A record's bytes, as document 01 has them.
pub mod Plain
pub mod Bytes
