-- Laws, lowest first.
pub mod Chain
pub mod ScaleLaws
pub mod Frames
pub mod Lengths
pub mod Values
pub mod FaultSets
