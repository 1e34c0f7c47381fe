-- What a sheet, a number and an argument answer.
pub mod Board
