-- The listing of a sheet.
pub mod Listing
