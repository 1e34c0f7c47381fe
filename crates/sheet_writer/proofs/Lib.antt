-- Laws, lowest first.
pub mod SheetLaws
pub mod SheetShape
pub mod ReadsWritten
pub mod WritesRead
pub mod WritesAll
pub mod WhichRefusals
pub mod BlankRun
pub mod Settled
