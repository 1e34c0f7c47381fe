-- Promise: each function asks nothing of its caller, and settles its result and what the lent buffers hold afterwards: two that
-- satisfy its contract are equal.
use Rattle.whole.proofs.Basics.{◌≡◌, ◌∙◌, sym}
use denote.Triple.Clauses.{AtExit}
use contract.Lifetimes.{Lfts}
use borrow.Fn.Kinds.{Dens, ended_of, res_t}
use Rattle.whole.proofs.Settled.{AsksNothing, Settled}
use Rattle.door.proofs.Determined.{exactly_unique}
use Rattle.sheet.specs.Reader.{formula_read, Reading}
use Rattle.desk.specs.Desk.{evaluated_double}
use Rattle.c_answers.specs.Answers.{SpannedBy}
use Rattle.c_answers.specs.declared.answers.IntervalEnds.{IntervalEnds}
use Rattle.c_answers.proofs.DoubleLaws.{shown_by_once}
use Rattle.valvepigeon.specs.Places.{places}
use Rattle.valvepigeon.proofs.vp_count.Kinds as count-kinds
use Rattle.valvepigeon.proofs.vp_count.Reads as count-reads
use Rattle.valvepigeon.proofs.vp_formula.Kinds as formula-kinds
use Rattle.valvepigeon.proofs.vp_formula.Reads as formula-reads
use Rattle.valvepigeon.proofs.vp_evaluate.Kinds as evaluate-kinds
use Rattle.valvepigeon.proofs.vp_evaluate.Reads as evaluate-reads
use Rattle.valvepigeon.proofs.vp_evaluate_double.Kinds as double-kinds
use Rattle.valvepigeon.proofs.vp_evaluate_double.Reads as double-reads
use Rattle.valvepigeon.proofs.vp_interval.Kinds as interval-kinds
use Rattle.valvepigeon.proofs.vp_interval.Reads as interval-reads
use Rattle.valvepigeon.proofs.vp_sine.Kinds as sine-kinds
use Rattle.valvepigeon.proofs.vp_sine.Reads as sine-reads
use Rattle.valvepigeon.proofs.vp_cosine.Kinds as cosine-kinds
use Rattle.valvepigeon.proofs.vp_cosine.Reads as cosine-reads
use Rattle.valvepigeon.proofs.vp_write_record.Kinds as record-kinds
use Rattle.valvepigeon.proofs.vp_write_record.Reads as record-reads
use Rattle.valvepigeon.proofs.vp_write_sheet.Kinds as sheet-kinds
use Rattle.valvepigeon.proofs.vp_write_sheet.Reads as sheet-reads
use Rattle.std.specs.Prelude.{Ok, Err}

-- ---- nothing is asked

pub count_asks_nothing : AsksNothing count-kinds.ps count-reads.Asked
count_asks_nothing κs a = tt

pub formula_asks_nothing : AsksNothing formula-kinds.ps formula-reads.Asked
formula_asks_nothing κs a = tt

pub evaluate_asks_nothing : AsksNothing evaluate-kinds.ps evaluate-reads.Asked
evaluate_asks_nothing κs a = tt

pub evaluate_double_asks_nothing : AsksNothing double-kinds.ps double-reads.Asked
evaluate_double_asks_nothing κs a = tt

pub interval_asks_nothing : AsksNothing interval-kinds.ps interval-reads.Asked
interval_asks_nothing κs a = tt

pub sine_asks_nothing : AsksNothing sine-kinds.ps sine-reads.Asked
sine_asks_nothing κs a = tt

pub cosine_asks_nothing : AsksNothing cosine-kinds.ps cosine-reads.Asked
cosine_asks_nothing κs a = tt

pub write_record_asks_nothing : AsksNothing record-kinds.ps record-reads.Asked
write_record_asks_nothing κs a = tt

pub write_sheet_asks_nothing : AsksNothing sheet-kinds.ps sheet-reads.Asked
write_sheet_asks_nothing κs a = tt

-- ---- results

pub count_settled : Settled count-kinds.ps count-kinds.r count-reads.Learnt
count_settled κs a x y s t p q = p ∙ sym q

pub formula_settled : Settled formula-kinds.ps formula-kinds.r formula-reads.Learnt
formula_settled κs a x y s t p q = p ∙ sym q

pub evaluate_settled : Settled evaluate-kinds.ps evaluate-kinds.r evaluate-reads.Learnt
evaluate_settled κs a x y s t p q = p ∙ sym q

pub evaluate_double_settled : Settled double-kinds.ps double-kinds.r double-reads.Learnt
evaluate_double_settled κs a x y s t p q = shown_by_once places (evaluated_double places a.0.now a.1.0 a.1.1.0) x y p q

spans_once : (a : Reading) (x y : IntervalEnds) → SpannedBy places a x → SpannedBy places a y → x ≡ y
spans_once (Ok f) x y p q =
    let low = exactly_unique places f.lo x.low y.low p.2 q.2 in
    let high = exactly_unique places f.hi x.high y.high p.3 q.3 in
    λ i. record { refused = (p.0 ∙ sym q.0) i; place = (p.1 ∙ sym q.1) i; low = low i; high = high i }
spans_once (Err r) x y p q = p ∙ sym q

pub interval_settled : Settled interval-kinds.ps interval-kinds.r interval-reads.Learnt
interval_settled κs a x y s t p q = spans_once (formula_read places a.0.now a.1.0) x y p q

pub sine_settled : Settled sine-kinds.ps sine-kinds.r sine-reads.Learnt
sine_settled κs a x y s t p q = p ∙ sym q

pub cosine_settled : Settled cosine-kinds.ps cosine-kinds.r cosine-reads.Learnt
cosine_settled κs a x y s t p q = p ∙ sym q

pub write_record_settled : Settled record-kinds.ps record-kinds.r record-reads.Learnt
write_record_settled κs a x y s t p q = p.0 ∙ sym q.0

pub write_sheet_settled : Settled sheet-kinds.ps sheet-kinds.r sheet-reads.Learnt
write_sheet_settled κs a x y s t p q = p.0 ∙ sym q.0

-- ---- lent buffers: each writer's `out` is its second parameter, the only one that can change

pub record_buffer_settled : (κs : Lfts 1) (a : Dens κs record-kinds.ps) (x y : (res_t record-kinds.r κs).Denot) (s t : AtExit (ended_of 1 record-kinds.ps record-kinds.r) κs)
    → record-reads.Learnt κs a x s → record-reads.Learnt κs a y t → s.1.0.now ≡ t.1.0.now
record_buffer_settled κs a x y s t p q = p.1 ∙ sym q.1

pub sheet_buffer_settled : (κs : Lfts 2) (a : Dens κs sheet-kinds.ps) (x y : (res_t sheet-kinds.r κs).Denot) (s t : AtExit (ended_of 2 sheet-kinds.ps sheet-kinds.r) κs)
    → sheet-reads.Learnt κs a x s → sheet-reads.Learnt κs a y t → s.1.0.now ≡ t.1.0.now
sheet_buffer_settled κs a x y s t p q = p.1 ∙ sym q.1
