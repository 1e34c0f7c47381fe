-- Laws, then a promise.
pub mod TextLaws
pub mod DecimalBack
