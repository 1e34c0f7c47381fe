-- Promise: the record writer asks nothing of its caller, and settles its result and its buffer: two results, and two later contents of
-- the buffer, that satisfy its contract are equal.
use Rattle.whole.proofs.Basics.{◌∙◌, sym, ap, List, ℕ}
use Rattle.whole.proofs.Settled.{AsksNothing, SettledBy, Settled}
use Rattle.record_writer.specs.Answers.{buffer_after, Writing}
use Rattle.record_writer.specs.RecordWriter.{bytes_of}
use Rattle.refusal.proofs.Refusal.told.Kinds as refused-kinds
use Rattle.refusal.proofs.Refusal.told.Reads as refused-reads
use Rattle.refusal.proofs.RefusalFromFault.from.Kinds as fault-kinds
use Rattle.refusal.proofs.RefusalFromFault.from.Reads as fault-reads
use Rattle.record_writer.proofs.write_record.Kinds as record-kinds
use Rattle.record_writer.proofs.write_record.Reads as record-reads

-- its refusals are made by the crate `refusal`: by any number, and of a fault
pub refused_by_asks_nothing : AsksNothing refused-kinds.ps refused-reads.Asked
refused_by_asks_nothing κs a = tt

pub refused_by_settled : Settled refused-kinds.ps refused-kinds.r refused-reads.Learnt
refused_by_settled κs a x y s t p q = p ∙ sym q

pub fault_asks_nothing : AsksNothing fault-kinds.ps fault-reads.Asked
fault_asks_nothing κs a = tt

pub fault_settled : Settled fault-kinds.ps fault-kinds.r fault-reads.Learnt
fault_settled κs a x y s t p q = p ∙ sym q

pub write_record_asks_nothing : AsksNothing record-kinds.ps record-reads.Asked
write_record_asks_nothing κs a = tt

pub write_record_settled : Settled record-kinds.ps record-kinds.r record-reads.Learnt
write_record_settled κs a x y s t p q = p.0 ∙ sym q.0

pub write_record_buffer_settled : SettledBy record-kinds.ps record-kinds.r record-reads.Learnt (List ℕ) (λ κs r s. s.1.0.now)
write_record_buffer_settled κs a x y s t p q =
    p.1 ∙ ap (λ (w : Writing). buffer_after w (bytes_of a.0) a.1.0.now) (p.0 ∙ sym q.0) ∙ sym q.1
