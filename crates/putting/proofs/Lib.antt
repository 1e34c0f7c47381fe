-- Laws, lowest first.
pub mod Fitting
pub mod PlainLaws
pub mod RecordLaws
pub mod PutLaws
pub mod RecordBack
pub mod HandedLaws
pub mod BytesAgain
