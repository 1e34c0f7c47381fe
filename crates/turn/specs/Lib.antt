-- Angles, and what sine and cosine answer to them.
pub mod Angles
pub mod Sine
