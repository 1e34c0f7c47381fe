-- Laws, then promises.
pub mod LineLaws
pub mod EachLine
pub mod Settled
