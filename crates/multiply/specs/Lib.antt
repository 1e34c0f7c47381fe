-- Halves of 16 bits, and what their products come to.
pub mod Halves
