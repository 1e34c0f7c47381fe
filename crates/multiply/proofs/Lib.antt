-- The laws of halves, which the proofs of the functions use.
pub mod MultiplyLaws
