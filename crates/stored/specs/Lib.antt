-- Numbers in bytes, and the list of words that a stretch of bytes holds.
pub mod Numbers
pub mod Words
