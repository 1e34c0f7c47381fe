-- The laws of the whole numbers, lowest first.
pub mod Basics
pub mod Diff
pub mod Ring
pub mod Settled
pub mod Order
pub mod Fit
pub mod Held
pub mod Linear
