-- The fixed table of document 01, and its rule.
pub mod Table
pub mod Codes
pub mod Rule
pub mod Order
pub mod Lines
