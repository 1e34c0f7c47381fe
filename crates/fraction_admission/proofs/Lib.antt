-- Laws of the admission of continued fractions.
pub mod AdmissionSteps
