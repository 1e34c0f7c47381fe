-- Rational formulas: the answer, its mark, and admission.
pub mod Rational
pub mod Exact
