-- Polynomials: the answer and its mark, admission, the distance from the exact value, and which are odd or even.
pub mod Polynomial
pub mod Exact
pub mod Distance
pub mod Parity
