-- A stretch of formula records, one behind the other: the walk goes past each, and is then where the next record stands.
use Rattle.whole.proofs.Basics.{◌≡◌, ◌∙◌, refl, sym, ap, false, cond, List, [], ◌∷◌, ◌++◌, append_assoc, ℕ, suc, zero, ◌+◌, ◌-◌, ◌≤◌, arith, length, length-append, eq-eqb, ne_eqb, le-ltb}
use native.Mathlib.Nat.{zero-add}
use Rattle.table.specs.declared.Class.{Class}
use Rattle.table.specs.declared.Class.TheVariants.{FormulaRecord}
use Rattle.layout.specs.Fields.{row_for, formula_number}
use Rattle.refusal.specs.Guard.{or_else, refusal}
use Rattle.faults.specs.Faults.{frame_fault, length_fault, order_fault}
use Rattle.records.specs.Sheets.{RecordOf, FormulaBytes, EachFormula, Rising, in_line}
use Rattle.walking.specs.Walking.{place_fault, class_fault, record_fault, record_here, fault_at, is_asked, found_by, after_formula, onward, run_done, walk_from}
use Rattle.walking.specs.Refused.{next_number}
use Rattle.walking.specs.declared.Walk.{Walk}
use Rattle.walking.proofs.Clear.{walk_broken, walk_on}
use Rattle.walking.proofs.Records.{frame_there, bytes_there}
use Rattle.std.specs.Prelude.{Err, Option, Some}

-- the place that a walk notes on its way over formulas
abbrev pub place_in : Option ℕ → ℕ → Option ℕ → List (List ℕ) → Option ℕ
place_in asked at found [] = found
place_in asked at found (b ∷ bs) = place_in asked (at + length b) (cond (is_asked asked (formula_number b)) (Some at) found) bs

-- the walk behind them
unfoldable pub after_all : List (List ℕ) → Walk → Walk
after_all [] w = w
after_all (b ∷ bs) w = after_all bs (after_formula b w)

module _ (s : ℕ) (bytes : List ℕ) (from : ℕ) where
  -- a run is not done before a record
  not_done : (before b after : List ℕ) (w : Walk) → bytes ≡ before ++ (b ++ after) → w.at ≡ from + length before → 8 ≤ length b → run_done bytes from w ≡ false
  not_done before b after w q a l = by from refl
    where
      long : length bytes ≡ length before + (length b + length after)
      long = ap length q ∙ length-append before (b ++ after) ∙ ap (λ (n : ℕ). length before + n) (length-append b after)

      by : (f : ℕ) → from ≡ f → run_done bytes f w ≡ false
      by zero e = refl
      by (suc n) e = ne_eqb (w.at - suc n) (length bytes) (λ z. omega (arith, z, a, e, long, l))

  -- a record of a class that may stand at the walk's place: the walk's fault is that of its content
  here : (before b after : List ℕ) (k : Class) (w : Walk) → RecordOf k b → bytes ≡ before ++ (b ++ after) → w.at ≡ from + length before → record_here bytes from w ≡ b
  here before b after k w r q a =
      let i : w.at - from ≡ length before = omega (arith, a) in
      rw (i, q) (bytes_there before b after k r)

  pub content_fault : (before b after : List ℕ) (k : Class) (w : Walk) → RecordOf k b → bytes ≡ before ++ (b ++ after) → w.at ≡ from + length before → place_fault from k w.at ≡ 0 → fault_at s bytes from w ≡ class_fault s k (row_for b) b w
  unfolding fault_at record_fault
  content_fault before b after k w r q a p =
      let i : w.at - from ≡ length before = omega (arith, a) in
      let frame : frame_fault bytes (w.at - from) ≡ 0 = rw (i, q) (frame_there before b after k r) in
      rw (here before b after k w r q a, eq-eqb (frame_fault bytes (w.at - from)) 0 frame)
      (ap (λ (j : Class). or_else (place_fault from j w.at) (or_else (length_fault (row_for b) b) (class_fault s j (row_for b) b w))) r.class
      ∙ rw (eq-eqb (place_fault from k w.at) 0 p, eq-eqb (length_fault (row_for b) b) 0 r.exact) refl)

  -- without one the walk goes on by the class, else it is broken there
  pub goes_on : (before b after : List ℕ) (k : Class) (w : Walk) (n : ℕ) → RecordOf k b → bytes ≡ before ++ (b ++ after) → w.at ≡ from + length before → place_fault from k w.at ≡ 0 → class_fault s k (row_for b) b w ≡ 0
      → walk_from (suc n) s bytes from w ≡ onward (walk_from n s bytes from) k b w (length bytes)
  goes_on before b after k w n r q a p c =
      walk_on s bytes from w n (not_done before b after w q a r.least) (content_fault before b after k w r q a p ∙ c)
      ∙ ap (λ (x : List ℕ). onward (walk_from n s bytes from) (row_for x).class x w (length bytes)) (here before b after k w r q a)
      ∙ ap (λ (j : Class). onward (walk_from n s bytes from) j b w (length bytes)) r.class

  pub stops_at : (before b after : List ℕ) (w : Walk) (n : ℕ) → 8 ≤ length b → bytes ≡ before ++ (b ++ after) → w.at ≡ from + length before → (fault_at s bytes from w ≡ 0 → ⊥)
      → walk_from (suc n) s bytes from w ≡ Err (refusal w.at (fault_at s bytes from w))
  stops_at before b after w n l q a f = walk_broken s bytes from w n (not_done before b after w q a l) refl f

  -- a formula may stand anywhere but at 0
  pub in_place : (at : ℕ) → (at ≡ 0 → ⊥) → place_fault from FormulaRecord at ≡ 0
  in_place at z = simp (ne_eqb at 0 z)

  past_one : (before b after : List ℕ) (w : Walk) (k : ℕ) → bytes ≡ before ++ (b ++ after) → w.at ≡ from + length before → (w.at ≡ 0 → ⊥) → (w.seen ≡ w.count → ⊥) → FormulaBytes s b → w.next ≤ formula_number b
      → walk_from (suc k) s bytes from w ≡ walk_from k s bytes from (after_formula b w)
  unfolding order_fault
  past_one before b after w k q a z m f o =
      goes_on before b after FormulaRecord w k f.one q a (in_place w.at z) (simp (ne_eqb w.seen w.count m, le-ltb (formula_number b) w.next o) f.inner)

  pub past_all : (fs : List (List ℕ)) (before after : List ℕ) (w : Walk) (k : ℕ) → bytes ≡ before ++ (in_line fs ++ after) → w.at ≡ from + length before → (w.at ≡ 0 → ⊥) → w.seen + length fs ≤ w.count → EachFormula s fs → Rising w.next fs
      → walk_from (length fs + k) s bytes from w ≡ walk_from k s bytes from (after_all fs w)
  unfolding after_all
  past_all [] before after w k q a z m f o = ap (λ (n : ℕ). walk_from n s bytes from w) (zero-add k)
  past_all (b ∷ bs) before after w k q a z m f o =
      let q' = q ∙ ap (λ (t : List ℕ). before ++ t) (append_assoc b (in_line bs) after) in
      let n : length (b ∷ bs) + k ≡ suc (length bs + k) = omega arith in
      ap (λ (j : ℕ). walk_from j s bytes from w) n
      ∙ past_one before b (in_line bs ++ after) w (length bs + k) q' a z (λ x. omega (arith, m, x)) f.0 o.0
      ∙ past_all bs (before ++ b) after (after_formula b w) k (q' ∙ sym (append_assoc before b (in_line bs ++ after))) (omega (arith, a, length-append before b)) (λ x. z (omega (arith, x))) (omega (arith, m)) f.1 o.1

-- ---- where the walk then is
module _ (fs : List (List ℕ)) where
  pub record Behind (w v : Walk) : Type 0 where
    pub at : v.at ≡ w.at + length (in_line fs)
    pub count : v.count ≡ w.count
    pub seen : v.seen ≡ w.seen + length fs
    pub next : v.next ≡ next_number w.next fs
    pub asked : v.asked ≡ w.asked
    pub found : v.found ≡ place_in w.asked w.at w.found fs

pub behind : (fs : List (List ℕ)) (w : Walk) → Behind fs w (after_all fs w)
unfolding after_all found_by
behind [] w = record { at = omega arith; count = refl; seen = omega arith; next = refl; asked = refl; found = refl }
behind (b ∷ bs) w =
    let i = behind bs (after_formula b w) in
    record {
      at = omega (arith, i.at, length-append b (in_line bs));
      count = i.count;
      seen = omega (arith, i.seen);
      next = i.next;
      asked = i.asked;
      found = i.found;
    }
