-- Laws of continued fractions. `StaysInRange`, `PrintedForm`, `ExactAnswer` and `BothSides` hold promises.
pub mod WalkLaws
pub mod ExactWalk
pub mod StaysInRange
pub mod PrintedForm
pub mod ExactAnswer
pub mod BothSides
