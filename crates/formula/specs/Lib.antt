-- Formulas of every kind, the mark of an answer, what a blank formula is, which formulas are odd or even, and the cases that the paper has checked by hand.
pub mod Exact
pub mod Formula
pub mod Blank
pub mod Parity
pub mod Checked
