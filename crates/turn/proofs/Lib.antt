-- Laws of angles, of their arguments and of 15, and the promises of sine and cosine, from `EveryAngle` on.
pub mod AngleLaws
pub mod ArgumentLaws
pub mod FaultLaws
pub mod EveryAngle
pub mod Symmetries
pub mod WhichRefusals
pub mod NoSteps
pub mod ExactAngles
pub mod Settled
