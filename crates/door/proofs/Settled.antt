-- Promise: each function of the door settles its result: two results that satisfy its contract, for the same arguments, are equal. For
-- `shown` and `ends`, whose contracts are relations, because only one double is exactly a word divided by 2^s.
use Rattle.whole.proofs.Basics.{◌∙◌, sym}
use Rattle.whole.proofs.Settled.{Settled}
use Rattle.door.proofs.Determined.{exactly_unique, ends_unique}
use Rattle.door.proofs.taken.Kinds as taken-kinds
use Rattle.door.proofs.taken.Reads as taken-reads
use Rattle.door.proofs.shown.Kinds as shown-kinds
use Rattle.door.proofs.shown.Reads as shown-reads
use Rattle.door.proofs.ends.Kinds as ends-kinds
use Rattle.door.proofs.ends.Reads as ends-reads

pub taken_settled : Settled taken-kinds.ps taken-kinds.r taken-reads.Learnt
taken_settled κs a x y s t p q = p ∙ sym q

pub shown_settled : Settled shown-kinds.ps shown-kinds.r shown-reads.Learnt
shown_settled κs a x y s t p q = exactly_unique a.1.0 a.0 x y p q

pub ends_settled : Settled ends-kinds.ps ends-kinds.r ends-reads.Learnt
ends_settled κs a x y s t p q = ends_unique a.1.1.0 a.0 a.1.0 x y p.0 p.1 q.0 q.1
