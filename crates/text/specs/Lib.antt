-- What the text of a number is, and what it means to put text into a buffer.
pub mod Text
