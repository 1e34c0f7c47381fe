-- The walk as the loop has it: what holds before each record, and that a record without fault keeps it.
use Rattle.whole.proofs.Basics.{◌≡◌, ◌∙◌, refl, ap, false, List, ℕ, suc, zero, ◌+◌, ◌-◌, ◌≤◌, ◌<◌, arith, length}
use Rattle.word.specs.Words.{Scale}
use Rattle.stored.specs.Numbers.{number4}
use Rattle.table.specs.declared.Class.{Class}
use Rattle.table.specs.declared.Class.TheVariants.{StartRecord, FormulaRecord, EndRecord}
use Rattle.table.specs.Table.{rows, first_row}
use Rattle.table.specs.Codes.{start_row}
use Rattle.layout.specs.Fields.{code_of, row_for}
use Rattle.layout.proofs.Cut.{length-bytes_at}
use Rattle.faults.proofs.Frames.{Framed, framed, reaches}
use Rattle.walking.specs.Walking.{begin, record_here, after_start, after_formula, ending, onward, run_done, fault_at, walk_from, walk_of, Walkable, Standing}
use Rattle.walking.specs.declared.Walk.{Walk}
use Rattle.walking.proofs.Classes.{start_class, end_class, formula_class}
use Rattle.walking.proofs.Clear.{Clear, clear, opened, moved, walk_on}
use Rattle.std.specs.Prelude.{Option}

-- a run may have 64 records
pub run_room : (from : ℕ) (asked : Option ℕ) → (begin (suc from) asked).count ≡ 64
unfolding start_row first_row rows
run_room from asked = refl

pub record Going (s : ℕ) (bytes : List ℕ) (from : ℕ) (asked : Option ℕ) (w : Walk) : Type 0 where
  pub standing : Standing bytes from w
  pub near : from ≤ 120
  pub seen : w.seen ≤ w.count
  pub count : w.count ≤ 64
  pub scale : ¬ (w.at ≡ 0) → Scale s
  -- the records that may still come
  pub left : ℕ
  pub enough : 65 ≤ left + w.seen
  pub first : w.at ≡ 0 → 66 ≤ left
  pub rest : walk_of s bytes from asked ≡ walk_from left s bytes from w

pub starts : (s : ℕ) (bytes : List ℕ) (from : ℕ) (asked : Option ℕ) → Walkable s from → Going s bytes from asked (begin from asked)
unfolding walk_of
starts s bytes zero asked h =
    record { standing = record { begun = omega arith; within = omega arith }; near = h.near; seen = omega arith; count = omega arith; scale = λ n. absurd (n refl); left = 66; enough = omega arith; first = λ z. omega arith; rest = refl }
starts s bytes (suc n) asked h =
    record { standing = record { begun = omega arith; within = omega arith }; near = h.near; seen = omega arith; count = omega (arith, run_room n asked); scale = λ q. h.scale (λ z. omega arith); left = 66; enough = omega arith; first = λ z. omega arith; rest = refl }

-- one record at least may come
pub rest_is : {s : ℕ} {bytes : List ℕ} {from : ℕ} {asked : Option ℕ} {w : Walk} (g : Going s bytes from asked w) → walk_of s bytes from asked ≡ walk_from (suc (g.left - 1)) s bytes from w
rest_is {s = s} {bytes = bytes} {from = from} {w = w} g =
    let some : g.left ≡ suc (g.left - 1) = omega (arith, g.enough, g.seen, g.count) in
    g.rest ∙ ap (λ (k : ℕ). walk_from k s bytes from w) some

-- the walk stands at a record without fault
pub record Fine (s : ℕ) (bytes : List ℕ) (from : ℕ) (asked : Option ℕ) (w : Walk) : Type 0 where
  pub going : Going s bytes from asked w
  pub not_done : run_done bytes from w ≡ false
  pub no_fault : fault_at s bytes from w ≡ 0

module _ {s : ℕ} {bytes : List ℕ} {from : ℕ} {asked : Option ℕ} {w : Walk} (h : Fine s bytes from asked w) where
  abbrev pub here : List ℕ
  here = record_here bytes from w

  -- past it the walk goes on, and has come nearer to the end
  abbrev pub Past : Walk → Type 0
  Past v = Going s bytes from asked v × (from + length bytes - v.at < from + length bytes - w.at)

  tests : Clear s bytes from w here
  tests = clear s bytes from w h.no_fault

  pub frame : Framed bytes (w.at - from)
  frame = framed bytes (w.at - from) tests.frame

  pub long : length here ≡ number4 bytes (w.at - from)
  long = length-bytes_at bytes (w.at - from) (reaches bytes (w.at - from) frame)

  on : (k : Class) → (row_for here).class ≡ k → walk_of s bytes from asked ≡ onward (walk_from (h.going.left - 1) s bytes from) k here w (length bytes)
  on k e =
      let n = h.going.left - 1 in
      rest_is h.going ∙ walk_on s bytes from w n h.not_done h.no_fault ∙ ap (λ (j : Class). onward (walk_from n s bytes from) j here w (length bytes)) e

  pub past_start : {v : Walk} → v ≡ after_start here w → code_of here ≡ 0x0001 → Past v
  past_start q e =
      let k = start_class (code_of here) e in
      let o = opened tests k in
      let g = h.going in
      let t = g.standing in
      rw q (
        record {
          standing = record { begun = omega (arith, t.begun, o.0); within = omega (arith, t.begun, o.0, long, frame.some, frame.whole) };
          near = g.near;
          seen = omega arith;
          count = o.2;
          scale = λ x. o.3;
          left = g.left - 1;
          enough = omega (arith, g.first o.0);
          first = λ x. absurd (omega (arith, x, long, frame.least));
          rest = on StartRecord k;
        },
        omega (arith, t.begun, o.0, long, frame.least, frame.some, frame.whole),
      )

  -- a formula does not stand first
  pub behind_first : (code_of here ≡ 0x0001 → ⊥) → (code_of here ≡ 0xffff → ⊥) → 0 < w.at
  behind_first n m = let f = moved tests (formula_class from (code_of here) w.at n m tests.place) in omega (arith, f.0)

  -- neither a start nor an end is a formula, where it stands
  pub past_formula : {v : Walk} → v ≡ after_formula here w → (code_of here ≡ 0x0001 → ⊥) → (code_of here ≡ 0xffff → ⊥) → Past v
  past_formula q n m =
      let k = formula_class from (code_of here) w.at n m tests.place in
      let f = moved tests k in
      let g = h.going in
      let t = g.standing in
      rw q (
        record {
          standing = record { begun = omega (arith, t.begun); within = omega (arith, t.begun, long, frame.some, frame.whole) };
          near = g.near;
          seen = omega (arith, f.1, g.seen);
          count = g.count;
          scale = λ x. g.scale f.0;
          left = g.left - 1;
          enough = omega (arith, g.enough, g.seen, g.count, f.1);
          first = λ x. absurd (f.0 (omega (arith, x)));
          rest = on FormulaRecord k;
        },
        omega (arith, t.begun, t.within, long, frame.least, frame.some, frame.whole),
      )

  -- an end ends it
  pub at_end : code_of here ≡ 0xffff → walk_of s bytes from asked ≡ ending w (w.at + length here) (length bytes)
  at_end e = on EndRecord (end_class (code_of here) e)
