-- The faults of a record, class by class as the code meets them, are those in the paper's order; which codes are framing records'; and a run's room.
use Rattle.whole.proofs.Basics.{◌≡◌, ◌∙◌, refl, sym, ap, subst, Bool, true, false, cond, List, ℕ, suc, zero, arith, eqb}
use Rattle.table.specs.declared.Class.{Class}
use Rattle.table.specs.declared.Class.TheVariants.{StartRecord, FormulaRecord, EndRecord, Unknown}
use Rattle.table.specs.declared.Row.{Row}
use Rattle.table.specs.Table.{rows, first_row, row_of}
use Rattle.table.specs.Codes.{start_row, end_row}
use Rattle.table.proofs.CodeLaws.{code_found, start_row_lem, end_row_lem}
use Rattle.layout.specs.Fields.{code_of, row_for, count_of}
use Rattle.refusal.specs.Guard.{or_else}
use Rattle.faults.specs.Faults.{length_fault, start_fault, scale_fault, end_fault}
use Rattle.faults.proofs.Chain.{or_assoc}
use Rattle.records.specs.Records.{formula_fault, only_formula}
use Rattle.walking.specs.Walking.{room_for, place_fault, class_fault, record_fault, start_record_fault, end_record_fault, other_record_fault}
use Rattle.walking.specs.declared.Walk.{Walk}

-- ---- the codes of a start and of an end
pub start_code : (c : ℕ) → (row_of c).class ≡ StartRecord → c ≡ 0x0001
unfolding start_row first_row rows
start_code c e = sym (code_found c e tt) ∙ ap (λ (r : Row). r.code) (start_row_lem c e)

pub end_code : (c : ℕ) → (row_of c).class ≡ EndRecord → c ≡ 0xffff
unfolding end_row first_row rows
end_code c e = sym (code_found c e tt) ∙ ap (λ (r : Row). r.code) (end_row_lem c e)

pub start_class : (c : ℕ) → c ≡ 0x0001 → (row_of c).class ≡ StartRecord
unfolding row_of first_row rows
start_class c e = subst (λ (n : ℕ). (row_of n).class ≡ StartRecord) (sym e) refl

pub end_class : (c : ℕ) → c ≡ 0xffff → (row_of c).class ≡ EndRecord
unfolding row_of first_row rows
end_class c e = subst (λ (n : ℕ). (row_of n).class ≡ EndRecord) (sym e) refl

-- ---- the room of a run: as many records as the table lets a start say
pub some : (n : ℕ) → ¬ (n ≡ 0) → start_row.count.most ≡ room_for n
some zero h = absurd (h refl)
some (suc n) h = refl

-- ---- the faults
module _ (s : ℕ) (from : ℕ) (b : List ℕ) (w : Walk) where
  pub at_start : code_of b ≡ 0x0001 → start_record_fault s b w.at ≡ record_fault s from (row_for b) b w
  unfolding record_fault row_of start_row first_row rows
  at_start e = rw e (by (eqb w.at 0) (length_fault start_row b) (start_fault start_row (count_of b)))
    where
      by : (t : Bool) (l c : ℕ) → cond t (or_else (or_else l c) (scale_fault s)) 3 ≡ or_else (cond t 0 3) (or_else l (or_else c (scale_fault s)))
      by true l c = or_assoc l c (scale_fault s)
      by false l c = refl

  pub at_end : code_of b ≡ 0xffff → end_record_fault from b w ≡ record_fault s from (row_for b) b w
  unfolding record_fault row_of end_row first_row rows
  at_end e = rw e (by (eqb w.at 0) (eqb from 0) (or_else (length_fault end_row b) (end_fault w.seen w.count (count_of b))))
    where
      by : (t u : Bool) (x : ℕ) → cond t 3 (cond u x 3) ≡ or_else (cond t 3 (cond u 0 3)) x
      by true u x = refl
      by false true x = refl
      by false false x = refl

  pub at_other : (code_of b ≡ 0x0001 → ⊥) → (code_of b ≡ 0xffff → ⊥) → other_record_fault s b w ≡ record_fault s from (row_for b) b w
  unfolding record_fault formula_fault
  at_other n m = at (row_for b).class refl
    where
      by : (t : Bool) (x : ℕ) → cond t 3 x ≡ or_else (cond t 3 0) x
      by true x = refl
      by false x = refl

      unknown : (t : Bool) (x : ℕ) → ◌≡◌ {A = ℕ} (cond t 3 3) 3
      unknown true x = refl
      unknown false x = refl

      at : (k : Class) → (row_for b).class ≡ k
          → cond (eqb w.at 0) 3 (or_else (only_formula k) (formula_fault s (row_for b) b w.seen w.count w.next)) ≡ or_else (place_fault from k w.at) (or_else (length_fault (row_for b) b) (class_fault s k (row_for b) b w))
      at StartRecord e = absurd (n (start_code (code_of b) e))
      at FormulaRecord e = by (eqb w.at 0) _
      at EndRecord e = absurd (m (end_code (code_of b) e))
      at Unknown e = unknown (eqb w.at 0) 0

-- a record that stands in its place, and is neither a start nor an end, is a formula
pub formula_class : (from : ℕ) (c at : ℕ) → (c ≡ 0x0001 → ⊥) → (c ≡ 0xffff → ⊥) → place_fault from (row_of c).class at ≡ 0 → (row_of c).class ≡ FormulaRecord
formula_class from c at n m z = go (row_of c).class refl z
  where
    go : (k : Class) → (row_of c).class ≡ k → place_fault from k at ≡ 0 → (row_of c).class ≡ FormulaRecord
    go StartRecord e p = absurd (n (start_code c e))
    go FormulaRecord e p = e
    go EndRecord e p = absurd (m (end_code c e))
    go Unknown e p = absurd (omega arith)
