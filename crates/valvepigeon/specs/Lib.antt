-- What the C library adds to its parts.
pub mod Places
