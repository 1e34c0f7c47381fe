-- The faults of a whole formula record, and what a sheet is.
pub mod Records
pub mod Sheets
