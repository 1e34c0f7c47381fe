-- Laws of the kinds `odd` and `even`, lowest first. `StaysInRange`, `Distance`, `ExactAnswer` and `BothSides` hold promises.
pub mod SquareLaws
pub mod StaysInRange
pub mod Distance
pub mod ExactAnswer
pub mod BothSides
