-- Laws of the operations on words, lowest first; other crates use all but `NearestLaws`.
pub mod NearestLaws
pub mod SignLaws
pub mod RoundedLaws
pub mod WordLaws
pub mod ExactLaws
pub mod LooseLaws
pub mod ListLaws
