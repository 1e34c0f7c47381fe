-- Laws, lowest first.
pub mod Cut
pub mod Complete
pub mod Padded
