-- Laws of formulas. `StaysInRange`, `Distance`, `ExactAnswer`, `BothSides`, `FewSteps`, `BlankNought` and `CheckedByHand` hold promises.
pub mod IntervalLaws
pub mod SoundLaws
pub mod StaysInRange
pub mod ReadyLaws
pub mod JudgedLaws
pub mod Distance
pub mod ExactAnswer
pub mod FewSteps
pub mod BothSides
pub mod BlankLaws
pub mod BlankNought
pub mod CheckedByHand
