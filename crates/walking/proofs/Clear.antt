-- What it says that there is no fault at the walk's place: the chain taken apart, and each class by itself.
use Rattle.whole.proofs.Basics.{◌≡◌, refl, sym, subst, Bool, true, false, cond, List, ℕ, suc, ◌+◌, ◌-◌, ◌≤◌, arith, eqb, ltb, length, eqb-true, eqb-false, ltb-false}
use Rattle.word.specs.Words.{Scale}
use Rattle.table.specs.declared.Class.{Class}
use Rattle.table.specs.declared.Class.TheVariants.{StartRecord, FormulaRecord, EndRecord, Unknown}
use Rattle.table.proofs.Rule.{ruled}
use Rattle.layout.specs.Fields.{code_of, row_for, count_of, formula_number}
use Rattle.refusal.specs.Guard.{refusal}
use Rattle.faults.specs.Faults.{frame_fault, length_fault, start_fault, order_fault, end_fault}
use Rattle.faults.proofs.ScaleLaws.{good_scale}
use Rattle.faults.proofs.Chain.{halts, goes, passed, met, neither}
use Rattle.faults.proofs.Lengths.{inside}
use Rattle.records.specs.Records.{inner_fault}
use Rattle.walking.specs.Walking.{place_fault, class_fault, record_fault, record_here, fault_at, after_start, after_formula, ending, onward, run_done, walk_from, Walked, whole}
use Rattle.walking.specs.declared.Walk.{Walk}
use Rattle.std.specs.Prelude.{Err}

-- ---- the chain
pub record Clear (s : ℕ) (bytes : List ℕ) (from : ℕ) (w : Walk) (b : List ℕ) : Type 0 where
  pub frame : frame_fault bytes (w.at - from) ≡ 0
  pub place : place_fault from (row_for b).class w.at ≡ 0
  pub size : length_fault (row_for b) b ≡ 0
  pub content : class_fault s (row_for b).class (row_for b) b w ≡ 0

module _ (s : ℕ) (bytes : List ℕ) (from : ℕ) (w : Walk) where
  pub clear : fault_at s bytes from w ≡ 0 → Clear s bytes from w (record_here bytes from w)
  unfolding fault_at record_fault
  clear e =
      let b = record_here bytes from w in
      let f = neither (frame_fault bytes (w.at - from)) _ e in
      let p = neither (place_fault from (row_for b).class w.at) _ f.1 in
      let l = neither (length_fault (row_for b) b) _ p.1 in
      record { frame = f.0; place = p.0; size = l.0; content = l.1 }

-- ---- each class by itself
later : (at x : ℕ) → cond (eqb at 0) 3 x ≡ 0 → (at ≡ 0 → ⊥) × (x ≡ 0)
later at x e = let p = passed (eqb at 0) 3 x (λ z. omega arith) e in (eqb-false at 0 p.0, p.1)

module _ {s : ℕ} {bytes : List ℕ} {from : ℕ} {w : Walk} {b : List ℕ} (c : Clear s bytes from w b) where
  content_at : (k : Class) → (row_for b).class ≡ k → (place_fault from k w.at ≡ 0) × (class_fault s k (row_for b) b w ≡ 0)
  content_at k e = (subst (λ (j : Class). place_fault from j w.at ≡ 0) e c.place, subst (λ (j : Class). class_fault s j (row_for b) b w ≡ 0) e c.content)

  -- a start stands at 0, and has a count of 1 to 64
  pub opened : (row_for b).class ≡ StartRecord → (w.at ≡ 0) × (1 ≤ count_of b) × (count_of b ≤ 64) × Scale s
  unfolding start_fault
  opened e =
      let p = content_at StartRecord e in
      let n = neither (start_fault (row_for b) (count_of b)) _ p.1 in
      let f = rw ((ruled (code_of b)).counted, e) at (inside (row_for b).count (count_of b) 4 (λ q. omega arith) n.0) in
      (eqb-true _ _ (met (eqb w.at 0) 0 3 (λ z. omega arith) p.0).0, f.0, f.1, good_scale s n.1)

  -- a formula is not one too many, and its number is not below the next
  pub moved : (row_for b).class ≡ FormulaRecord → (w.at ≡ 0 → ⊥) × (w.seen ≡ w.count → ⊥) × (w.next ≤ formula_number b) × (inner_fault s (row_for b) b ≡ 0)
  unfolding order_fault
  moved e =
      let p = content_at FormulaRecord e in
      let n = neither (order_fault w.seen w.count w.next (formula_number b)) _ p.1 in
      let f = passed (eqb w.seen w.count) 4 _ (λ z. omega arith) n.0 in
      let g = passed (ltb (formula_number b) w.next) 5 0 (λ z. omega arith) f.1 in
      ((later w.at 0 p.0).0, eqb-false _ _ f.0, ltb-false _ _ g.0, n.1)

  -- an end has the count of the formulas that were seen, all that there may be
  pub closed : (row_for b).class ≡ EndRecord → (w.at ≡ 0 → ⊥) × (from ≡ 0) × (w.seen ≡ w.count) × (count_of b ≡ w.count)
  unfolding end_fault
  closed e =
      let p = content_at EndRecord e in
      let l = later w.at _ p.0 in
      let f = met (eqb w.seen w.count) _ 4 (λ z. omega arith) p.1 in
      let g = met (eqb (count_of b) w.count) 0 4 (λ z. omega arith) f.1 in
      (l.0, eqb-true _ _ (met (eqb from 0) 0 3 (λ z. omega arith) l.1).0, eqb-true _ _ f.0, eqb-true _ _ g.0)

  known : (row_for b).class ≡ Unknown → ⊥
  known e = let p = content_at Unknown e in omega (arith, p.0)

-- ---- one record of the walk
module _ (s : ℕ) (bytes : List ℕ) (from : ℕ) (w : Walk) (k : ℕ) where
  abbrev here : List ℕ
  here = record_here bytes from w

  abbrev rest : Walked
  rest = onward (walk_from k s bytes from) (row_for here).class here w (length bytes)

  pub walk_done : run_done bytes from w ≡ true → walk_from (suc k) s bytes from w ≡ whole w.seen w.found
  unfolding walk_from
  walk_done d = rw d refl

  pub walk_broken : {f : ℕ} → run_done bytes from w ≡ false → f ≡ fault_at s bytes from w → (f ≡ 0 → ⊥) → walk_from (suc k) s bytes from w ≡ Err (refusal w.at f)
  unfolding walk_from
  walk_broken d e h = rw d (sym (halts (λ n. Err (refusal w.at n)) rest e h refl))

  pub walk_on : run_done bytes from w ≡ false → fault_at s bytes from w ≡ 0 → walk_from (suc k) s bytes from w ≡ rest
  unfolding walk_from
  walk_on d e = rw d (sym (goes (λ n. Err (refusal w.at n)) refl e refl))

  -- and back: a walk with a result is done here, or broken here, or goes on by the class of a record without fault
  pub by_record : {A : Type 0} (r : Walked) → walk_from (suc k) s bytes from w ≡ r
      → (run_done bytes from w ≡ true → whole w.seen w.found ≡ r → A)
      → ((fault_at s bytes from w ≡ 0 → ⊥) → Err (refusal w.at (fault_at s bytes from w)) ≡ r → A)
      → (Clear s bytes from w here → (row_for here).class ≡ StartRecord → walk_from k s bytes from (after_start here w) ≡ r → A)
      → (Clear s bytes from w here → (row_for here).class ≡ FormulaRecord → walk_from k s bytes from (after_formula here w) ≡ r → A)
      → (Clear s bytes from w here → (row_for here).class ≡ EndRecord → ending w (w.at + length here) (length bytes) ≡ r → A) → A
  unfolding walk_from
  by_record {A = A} r e done broken start formula end = at (run_done bytes from w) refl (eqb (fault_at s bytes from w) 0) refl e
    where
      on : Clear s bytes from w here → (j : Class) → (row_for here).class ≡ j → onward (walk_from k s bytes from) j here w (length bytes) ≡ r → A
      on x StartRecord q p = start x q p
      on x FormulaRecord q p = formula x q p
      on x EndRecord q p = end x q p
      on x Unknown q p = absurd (known x q)

      at : (d : Bool) → run_done bytes from w ≡ d → (t : Bool) → eqb (fault_at s bytes from w) 0 ≡ t
          → cond d (whole w.seen w.found) (cond t rest (Err (refusal w.at (fault_at s bytes from w)))) ≡ r → A
      at true d t q p = done d p
      at false d true q p = on (clear s bytes from w (eqb-true _ _ q)) (row_for here).class refl p
      at false d false q p = broken (eqb-false _ _ q) p
