-- How a record's line is made up, and how long it is.
pub mod LineLaws
