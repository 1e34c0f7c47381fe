-- Laws, lowest first.
pub mod Tested
pub mod Search
pub mod CodeLaws
pub mod Rule
pub mod OrderLaws
