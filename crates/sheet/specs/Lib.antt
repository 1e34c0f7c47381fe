-- What the reader answers.
pub mod Reader
