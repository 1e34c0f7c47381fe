-- Continued fractions: the answer, its mark and its exact value, admission.
pub mod Fraction
pub mod Exact
pub mod Admission
pub mod Ready
