-- Promise: each public function of the desk asks nothing of its caller, and settles its result: two results that satisfy its contract are equal.
use Rattle.whole.proofs.Basics.{◌≡◌, ◌∙◌, sym, ap, ℕ}
use Rattle.whole.proofs.Settled.{AsksNothing, Settled}
use Rattle.door.proofs.Determined.{exactly_unique, ends_unique}
use Rattle.sheet.specs.Reader.{formula_read, Reading}
use Rattle.desk.specs.Desk.{ShownAs, IntervalAs, evaluated_double, showing, Showing, Interval}
use Rattle.desk.proofs.evaluate_double.Kinds as double-kinds
use Rattle.desk.proofs.evaluate_double.Reads as double-reads
use Rattle.desk.proofs.interval.Kinds as interval-kinds
use Rattle.desk.proofs.interval.Reads as interval-reads
use Rattle.answering.specs.Answering.{Evaluation}
use Rattle.std.specs.Prelude.{Err, Ok}

-- only one double is exactly a word divided by 2^s
shown_once : (s : ℕ) (e : Evaluation) (x y : Showing) → ShownAs s e x → ShownAs s e y → x ≡ y
shown_once s (Ok w) (Ok a) (Ok b) p q =
    let value = exactly_unique s w.word a.value b.value p.0 q.0 in
    λ i. showing (value i) ((p.1 ∙ sym q.1) i) ((p.2 ∙ sym q.2) i)
shown_once s (Ok w) (Ok a) (Err r) p q = absurd q
shown_once s (Ok w) (Err r) y p q = absurd p
shown_once s (Err r) (Ok a) y p q = absurd p
shown_once s (Err r) (Err x) (Ok b) p q = absurd q
shown_once s (Err r) (Err x) (Err y) p q = ap Err (p ∙ sym q)

pub evaluate_double_asks_nothing : AsksNothing double-kinds.ps double-reads.Asked
evaluate_double_asks_nothing κs a = tt

pub evaluate_double_settled : Settled double-kinds.ps double-kinds.r double-reads.Learnt
evaluate_double_settled κs a x y s t p q = shown_once a.1.1.1.0 (evaluated_double a.1.1.1.0 a.0.now a.1.0 a.1.1.0) x y p q

interval_once : (s : ℕ) (a : Reading) (x y : Interval) → IntervalAs s a x → IntervalAs s a y → x ≡ y
interval_once s (Ok f) (Ok x) (Ok y) p q = ap Ok (ends_unique s f.lo f.hi x y p.0 p.1 q.0 q.1)
interval_once s (Ok f) (Ok x) (Err r) p q = absurd q
interval_once s (Ok f) (Err r) y p q = absurd p
interval_once s (Err r) (Ok x) y p q = absurd p
interval_once s (Err r) (Err x) (Ok y) p q = absurd q
interval_once s (Err r) (Err x) (Err y) p q = ap Err (p ∙ sym q)

pub interval_asks_nothing : AsksNothing interval-kinds.ps interval-reads.Asked
interval_asks_nothing κs a = tt

pub interval_settled : Settled interval-kinds.ps interval-kinds.r interval-reads.Learnt
interval_settled κs a x y s t p q = interval_once a.1.1.0 (formula_read a.1.1.0 a.0.now a.1.0) x y p q
