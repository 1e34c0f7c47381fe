-- Laws of the board, and its promises, from `AnswersInside` on.
pub mod ReadingLaws
pub mod AnswersInside
pub mod SheetDistance
pub mod ExactAnswers
pub mod BothSides
pub mod FewSteps
pub mod WhichRefusals
pub mod Settled
