-- The sheet writer, and what the two round trips speak of.
pub mod SheetWriter
pub mod RoundTrips
