-- The paper's numbers of refusals, and their order.
pub mod Told
pub mod Guard
