-- Laws of the desk, and its promises, from `SameNumbers` on.
pub mod ReadingLaws
pub mod SameNumbers
pub mod DoublesInside
pub mod BothSides
pub mod FewSteps
pub mod ExactDoubles
pub mod WhichRefusals
pub mod Settled
