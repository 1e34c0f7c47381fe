-- The laws of the door. The theorems are in Determined, ExactArgument, ThereAndBack, BothSides and Settled; the other files serve the functions' proofs.
pub mod Determined
pub mod ExactLaws
pub mod TakenLaws
pub mod ExactArgument
pub mod ThereAndBack
pub mod BothSides
pub mod FieldLaws
pub mod BitLaws
pub mod Settled
