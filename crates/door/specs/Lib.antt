-- Doubles at the desk, as document 01 has them.
pub mod Exact
pub mod Taken
