-- What a sheet, a number and a double answer, as doubles.
pub mod Desk
