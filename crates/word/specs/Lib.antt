-- The number on the board, as document 01 has it, and when it is exact, as request M-105 has it.
pub mod Rounded
pub mod Words
pub mod Exact
pub mod Lists
