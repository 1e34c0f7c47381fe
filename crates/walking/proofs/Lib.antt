-- Laws, lowest first.
pub mod Classes
pub mod Clear
pub mod Records
pub mod Numbered
pub mod Going
pub mod Formulas
pub mod WalkToShape
pub mod ShapeToWalk
pub mod WalkToRefusal
pub mod RefusalToWalk
pub mod BlankMet
