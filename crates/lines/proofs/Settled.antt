-- Promise: the listing asks nothing of its caller, and settles its result and the buffer: two results, and two later contents, that satisfy its contract are equal.
use Rattle.whole.proofs.Basics.{◌≡◌, ◌∙◌, sym, ap, ◌++◌, ℕ, drop}
use contract.Lifetimes.{Lfts}
use borrow.Fn.Kinds.{Dens, ended_of, res_t}
use denote.Triple.Clauses.{AtExit}
use Rattle.whole.proofs.Settled.{AsksNothing, Settled}
use Rattle.lines.specs.Listing.{listing}
use Rattle.lines.proofs.list_sheet.Kinds as kinds
use Rattle.lines.proofs.list_sheet.Reads as reads

pub list_sheet_asks_nothing : AsksNothing kinds.ps reads.Asked
list_sheet_asks_nothing κs a = tt

pub list_sheet_settled : Settled kinds.ps kinds.r reads.Learnt
list_sheet_settled κs a x y s t p q = p.0.0 ∙ sym q.0.0

pub list_sheet_buffer : (κs : Lfts 2) (a : Dens κs kinds.ps) (x y : (res_t kinds.r κs).Denot) (s t : AtExit (ended_of 2 kinds.ps kinds.r) κs)
    → reads.Learnt κs a x s → reads.Learnt κs a y t → s.1.0.now ≡ t.1.0.now
list_sheet_buffer κs a x y s t p q =
    let e : x ≡ y = p.0.0 ∙ sym q.0.0 in
    p.0.1 ∙ ap (λ (n : ℕ). listing a.0.now ++ drop n a.1.0.now) e ∙ sym q.0.1
