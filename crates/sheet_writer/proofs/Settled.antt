-- Promise: the sheet writer asks nothing of its caller, and settles its result and its buffer: two results, and two later contents of
-- the buffer, that satisfy its contract are equal.
use Rattle.whole.proofs.Basics.{◌≡◌, ◌∙◌, sym, ap}
use contract.Lifetimes.{Lfts}
use borrow.Fn.Kinds.{Dens, ended_of, res_t}
use denote.Triple.Clauses.{AtExit}
use Rattle.whole.proofs.Settled.{AsksNothing, Settled}
use Rattle.record_writer.specs.Answers.{buffer_after, Writing}
use Rattle.sheet_writer.specs.SheetWriter.{sheet_of}
use Rattle.sheet_writer.proofs.write_sheet.Kinds as sheet-kinds
use Rattle.sheet_writer.proofs.write_sheet.Reads as sheet-reads

pub write_sheet_asks_nothing : AsksNothing sheet-kinds.ps sheet-reads.Asked
write_sheet_asks_nothing κs a = tt

pub write_sheet_settled : Settled sheet-kinds.ps sheet-kinds.r sheet-reads.Learnt
write_sheet_settled κs a x y s t p q = p.0 ∙ sym q.0

pub write_sheet_buffer_settled : (κs : Lfts 2) (a : Dens κs sheet-kinds.ps) (x y : (res_t sheet-kinds.r κs).Denot) (s t : AtExit (ended_of 2 sheet-kinds.ps sheet-kinds.r) κs)
    → sheet-reads.Learnt κs a x s → sheet-reads.Learnt κs a y t → s.1.0.now ≡ t.1.0.now
write_sheet_buffer_settled κs a x y s t p q =
    p.1 ∙ ap (λ (w : Writing). buffer_after w (sheet_of a.1.1.0 a.0.now) a.1.0.now) (p.0 ∙ sym q.0) ∙ sym q.1
