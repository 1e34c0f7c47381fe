-- The root of a word, as document 01 has it, and Heron's rule with its steps, as request M-103 has it.
pub mod Root
pub mod Heron
