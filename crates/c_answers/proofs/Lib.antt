pub mod DoubleLaws
pub mod FieldsBack
pub mod Settled
