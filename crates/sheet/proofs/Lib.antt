-- Laws.
pub mod Words
pub mod Places
-- Promises.
pub mod WhichRefusals
pub mod RefusedThere
pub mod SameRefusal
pub mod AcceptedShape
pub mod CutShort
pub mod ZeroTail
pub mod FormulasGiven
pub mod NoBlank
pub mod BlankRefused
pub mod Settled
