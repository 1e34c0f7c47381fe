-- Refusal numbers and their order, and the faults of a record's parts.
pub mod Faults
pub mod Refusals
