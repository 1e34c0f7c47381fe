-- One line of a listing.
pub mod Line
