-- Laws of polynomials, lowest first. `StaysInRange`, `Distance`, `ExactAnswer` and `BothSides` hold promises.
pub mod WalkLaws
pub mod BoundLaws
pub mod StaysInRange
pub mod SumLaws
pub mod Distance
pub mod ExactWalk
pub mod ExactAnswer
pub mod BothSides
