-- What holds of every function of the C library.
pub mod Settled
