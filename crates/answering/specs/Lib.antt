-- What one formula answers at an argument.
pub mod Answering
