-- Laws, lowest first.
pub mod Elements
pub mod RecordFaults
pub mod RecordWriting
pub mod PutBy
pub mod Written
pub mod Accepted
pub mod WhichRefusals
pub mod NoBlank
pub mod Settled
