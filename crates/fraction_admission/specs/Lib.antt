-- Admission of continued fractions, term by term.
pub mod Terms
