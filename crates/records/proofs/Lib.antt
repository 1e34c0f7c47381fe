-- Laws, lowest first.
pub mod Soundness
pub mod Front
pub mod FormulaLaws
pub mod ValueSets
