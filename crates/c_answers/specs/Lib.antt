-- What C is given for each answer of the library.
pub mod Fields
pub mod Answers
