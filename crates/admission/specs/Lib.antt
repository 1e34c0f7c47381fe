-- The two refusals of admission.
pub mod Admission
