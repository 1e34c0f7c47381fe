-- Laws of rational formulas. `StaysInRange`, `ExactAnswer` and `BothSides` hold promises.
pub mod AdmissionSteps
pub mod StaysInRange
pub mod ExactAnswer
pub mod BothSides
