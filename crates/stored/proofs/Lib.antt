-- Laws, lowest first.
pub mod Back
pub mod NumberLaws
pub mod WordsLaws
pub mod ValuesLaws
pub mod StoreLaws
