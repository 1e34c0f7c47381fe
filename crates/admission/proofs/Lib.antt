-- Laws of admission, which the kinds use.
pub mod AdmissionLaws
