-- `walking::walk_over`: what is known at each step of the loop. A walk that is not done and stands at no fault is `Fine`, and goes on by the class of its record.
use Rattle.whole.proofs.Basics.{◌≡◌, ◌∙◌, refl, sym, ap, false, List, ℕ, suc, zero, ◌-◌, ◌≤◌, arith, eqb, eq-eqb, ne_eqb, length}
use Rattle.refusal.specs.Guard.{number_of}
use Rattle.layout.specs.Fields.{code_of}
use Rattle.stored.specs.Numbers.{number4}
use Rattle.layout.proofs.Cut.{length-bytes_at}
use Rattle.faults.proofs.Frames.{framed, reaches}
use Rattle.faults.proofs.Chain.{fault_some, err_stops, ok_passes}
use Rattle.walking.specs.Walking.{after_formula, fault_at, run_done}
use Rattle.walking.specs.declared.Walk.{Walk}
use Rattle.walking.proofs.Clear.{walk_done, walk_broken}
use Rattle.walking.proofs.Going.{starts, rest_is, Fine, here, Past, frame, long, past_start, past_formula, behind_first, at_end}
use Rattle.std.specs.Prelude.{Err}
use Rattle.walking.proofs.walk_over.Goals as goal
use Rattle.walking.proofs.walk_over.Goals.{After-frame_fault, In_default-record_fault, After-record_at-b, After-after_start-w, In_default-code, After-after_formula-w, else-from-ne0-via-then-from-ne0+else-w-from, else-from-ne0-via-else-from-ne0}

pub loop-w-init : goal.loop-w-init
loop-w-init c = rw c.begin-w.ensures (starts c.args.s _ c.args.from c.args.asked c.requires)

-- ---- whether a run is done, by the two tests
sheet : (bytes : List ℕ) (from : ℕ) (w : Walk) → from ≡ 0 → run_done bytes from w ≡ false
sheet bytes from w e = ap (λ (n : ℕ). run_done bytes n w) e

run : (bytes : List ℕ) (from : ℕ) (w : Walk) → ¬ (from ≡ 0) → run_done bytes from w ≡ eqb (w.at - from) (length bytes)
run bytes zero w h = absurd (h refl)
run bytes (suc n) w h = refl

pub returns-then-w-from : goal.returns-then-w-from
returns-then-w-from c = let w = c.loop-w.w in let a = c.args in sym (rest_is c.loop-w.invariant ∙ walk_done a.s _ a.from w _ (run _ a.from w c.if-from-ne0.true ∙ eq-eqb _ _ c.if-w-from.true))

-- ---- the run is not done, or there is none
not_done : (c : After-frame_fault) → run_done c.args.bytes.now c.args.from c.loop-w.w ≡ false
not_done c =
    elim c.else-from-ne0.branch [
      | else-from-ne0-via-then-from-ne0+else-w-from t ↦ run _ c.args.from c.loop-w.w t.if-from-ne0.true ∙ ne_eqb _ _ t.if-w-from.false
      | else-from-ne0-via-else-from-ne0 t ↦ sheet _ c.args.from c.loop-w.w t.if-from-ne0.false
    ]

-- a fault of the frame stops the walk
pub returns-in-Err : goal.returns-in-Err
unfolding fault_at
returns-in-Err c =
    let a = c.args in
    ap Err c.new.ensures
    ∙ sym (rest_is c.loop-w.invariant ∙ walk_broken a.s a.bytes.now a.from c.loop-w.w _ (not_done (goal.at.returns-in-Err c).After-frame_fault) (err_stops c.in-Err.fault _ c.in-Err.ensures) (fault_some c.in-Err.fault))

-- without one the record can be cut out, and is 8 to 120 bytes long
pub record_at-b-requires : goal.record_at-b-requires
record_at-b-requires c = reaches _ _ (framed _ _ (sym c.in_default.ensures))

as_long : (c : After-record_at-b) → length c.record_at-b.result.now ≡ number4 c.args.bytes.now (c.loop-w.w.at - c.args.from)
as_long c = ap length c.record_at-b.ensures ∙ length-bytes_at _ _ (reaches _ _ (framed _ _ (sym c.in_default.ensures)))

long_enough : (c : After-record_at-b) → 8 ≤ length c.record_at-b.result.now
long_enough c = omega (arith, as_long c, (framed _ _ (sym c.in_default.ensures)).least)

pub code-code-requires : goal.code-code-requires
code-code-requires c = long_enough (goal.at.code-code-requires c).After-record_at-b

pub record_fault-requires-clause-long : goal.record_fault-requires-clause-long
record_fault-requires-clause-long c =
    let b = (goal.at.record_fault-requires-clause-long c).After-record_at-b in
    (long_enough b, omega (arith, as_long b, (framed _ _ (sym c.in_default.ensures)).most))

-- a fault of the record stops it too
pub returns-in-Err-record_fault : goal.returns-in-Err-record_fault
unfolding fault_at
returns-in-Err-record_fault c =
    let a = c.args in
    let f = c.in-Err-record_fault.fault in
    let e : number_of f ≡ fault_at a.s a.bytes.now a.from c.loop-w.w = ok_passes c.in_default.ensures (rw c.record_at-b.ensures at c.in-Err-record_fault.ensures) in
    ap Err c.new-in-Err-record_fault.ensures
    ∙ sym (rest_is c.loop-w.invariant ∙ walk_broken a.s a.bytes.now a.from c.loop-w.w _ (not_done (goal.at.returns-in-Err-record_fault c).After-frame_fault) e (fault_some f))

-- ---- and there is no fault
fine : (c : In_default-record_fault) → Fine c.args.s c.args.bytes.now c.args.from c.args.asked c.loop-w.w
unfolding fault_at
fine c =
    record {
      going = c.loop-w.invariant;
      not_done = not_done (goal.at.In_default-record_fault c).After-frame_fault;
      no_fault = sym (ok_passes c.in_default.ensures (rw c.record_at-b.ensures at c.in_default-record_fault.ensures));
    }

code_is : (c : In_default-record_fault) → code_of (here (fine c)) ≡ c.code-code.result
code_is c = sym (rw c.record_at-b.ensures at c.code-code.ensures)

pub after_start-w-requires : goal.after_start-w-requires
after_start-w-requires c = long_enough (goal.at.after_start-w-requires c).After-record_at-b

-- past a start
opened : (c : After-after_start-w) → Past (fine (goal.at.After-after_start-w c).In_default-record_fault) c.after_start-w.result
opened c = past_start (fine (goal.at.After-after_start-w c).In_default-record_fault) (rw c.record_at-b.ensures at c.after_start-w.ensures) (code_is (goal.at.After-after_start-w c).In_default-record_fault ∙ c.in-1.is)

pub loop-w-smaller-in-1 : goal.loop-w-smaller-in-1
loop-w-smaller-in-1 c = (opened (goal.at.loop-w-smaller-in-1 c).After-after_start-w).1

pub loop-w-preserved-in-1 : goal.loop-w-preserved-in-1
loop-w-preserved-in-1 c = (opened (goal.at.loop-w-preserved-in-1 c).After-after_start-w).0

pub overflow_add-w : goal.overflow_add-w
overflow_add-w c =
    let f = fine (goal.at.overflow_add-w c).In_default-record_fault in
    record { fits = omega (arith, ap length c.record_at-b.ensures, long f, (frame f).most, f.going.standing.within, f.going.near, c.well_formed) }

pub returns-in-65535 : goal.returns-in-65535
returns-in-65535 c =
    rw c.record_at-b.ensures at c.ending.ensures ∙ sym (at_end (fine (goal.at.returns-in-65535 c).In_default-record_fault) (code_is (goal.at.returns-in-65535 c).In_default-record_fault ∙ c.in-65535.is))

-- past any other, which is a formula
no_start : (c : In_default-code) → code_of (here (fine (goal.at.In_default-code c).In_default-record_fault)) ≡ 1 → ⊥
no_start c z = let e : c.code-code.result ≡ 1 = sym (code_is (goal.at.In_default-code c).In_default-record_fault) ∙ z in omega arith

no_end : (c : In_default-code) → code_of (here (fine (goal.at.In_default-code c).In_default-record_fault)) ≡ 65535 → ⊥
no_end c z = let e : c.code-code.result ≡ 65535 = sym (code_is (goal.at.In_default-code c).In_default-record_fault) ∙ z in omega arith

moved : (c : In_default-code) {v : Walk} → v ≡ after_formula (here (fine (goal.at.In_default-code c).In_default-record_fault)) c.loop-w.w → Past (fine (goal.at.In_default-code c).In_default-record_fault) v
moved c q = past_formula (fine (goal.at.In_default-code c).In_default-record_fault) q (no_start c) (no_end c)

pub after_formula-w-requires : goal.after_formula-w-requires
after_formula-w-requires c =
    let m = (moved (goal.at.after_formula-w-requires c).In_default-code refl).0 in
    let g = c.loop-w.invariant in
    let d = (goal.at.after_formula-w-requires c).In_default-code in
    (long_enough (goal.at.after_formula-w-requires c).After-record_at-b, behind_first (fine (goal.at.In_default-code d).In_default-record_fault) (no_start d) (no_end d), omega (arith, ap length c.record_at-b.ensures, m.standing.within, m.near, c.well_formed), omega (arith, g.seen, g.count))

behind : (c : After-after_formula-w) → Past (fine (goal.at.After-after_formula-w c).In_default-record_fault) c.after_formula-w.result
behind c = moved (goal.at.After-after_formula-w c).In_default-code (rw c.record_at-b.ensures at c.after_formula-w.ensures)

pub loop-w-smaller : goal.loop-w-smaller
loop-w-smaller c = (behind (goal.at.loop-w-smaller c).After-after_formula-w).1

pub loop-w-preserved : goal.loop-w-preserved
loop-w-preserved c = (behind (goal.at.loop-w-preserved c).After-after_formula-w).0
