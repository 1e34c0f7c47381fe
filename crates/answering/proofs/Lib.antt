-- Laws of a formula's interval, and of marks.
pub mod IntervalLaws
pub mod MarkLaws
