-- The walk over a sheet or a run, and what a refusal of it says.
pub mod Sought
pub mod Walking
pub mod Refused
pub mod BlankRecords
