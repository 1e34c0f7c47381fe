-- A walk that is broken is so by one of a set: a record's refusals, and for a sheet 9 besides. Each record's fault is in the set, and 9 is
-- given at an end alone, which a run has not.
use Rattle.whole.proofs.Basics.{◌≡◌, refl, Bool, true, false, cond, inl, inr, List, ◌∷◌, ℕ, suc, zero, ◌-◌, arith, T, eqb, ltb, length, eqb-true, eqb-false}
use Rattle.table.specs.declared.Class.{Class}
use Rattle.table.specs.declared.Class.TheVariants.{StartRecord, FormulaRecord, EndRecord, Unknown}
use Rattle.table.specs.declared.Row.{Row}
use Rattle.layout.specs.Fields.{row_for, count_of, formula_number, shape_of, lo_of, hi_of, words_of}
use Rattle.refusal.specs.Guard.{guard, refusal}
use Rattle.faults.specs.Refusals.{OneOf, record_refusals, sheet_refusals}
use Rattle.faults.proofs.FaultSets.{among, one_of, Fault, none, test, first, frame_set, length-set, start-set, scale-set, order_set, end_set}
use Rattle.records.proofs.ValueSets.{value_set}
use Rattle.walking.specs.Walking.{place_fault, class_fault, record_fault, record_here, fault_at, begin, ending, onward, run_done, walk_from, walk_of, Walked, whole}
use Rattle.walking.specs.declared.Walk.{Walk}
use Rattle.walking.proofs.Clear.{clear, closed}
use Rattle.std.specs.Prelude.{Err, Ok, Option}

-- the refusals of a sheet, from 0, and of a run, from behind a start
abbrev pub refusals_from : ℕ → List ℕ
refusals_from zero = sheet_refusals
refusals_from (suc n) = record_refusals

-- ---- the fault of a record

abbrev pub of_record : ℕ → Type 0
of_record n = Fault record_refusals n

is : (n : ℕ) → T (among (0 ∷ record_refusals) n) → of_record n
is n t = one_of (0 ∷ record_refusals) n t

place : (from : ℕ) (k : Class) (at : ℕ) → of_record (place_fault from k at)
place from StartRecord at = test record_refusals (eqb at 0) (none record_refusals) (is 3 tt)
place from FormulaRecord at = test record_refusals (eqb at 0) (is 3 tt) (none record_refusals)
place from EndRecord at = test record_refusals (eqb at 0) (is 3 tt) (test record_refusals (eqb from 0) (none record_refusals) (is 3 tt))
place from Unknown at = is 3 tt

content : (s : ℕ) (k : Class) (r : Row) (b : List ℕ) (w : Walk) → of_record (class_fault s k r b w)
content s StartRecord r b w = first record_refusals _ _ (start-set record_refusals (is 4 tt) r (count_of b)) (scale-set record_refusals (is 6 tt) s)
content s FormulaRecord r b w =
    first record_refusals _ _ (order_set record_refusals (is 4 tt) (is 5 tt) w.seen w.count w.next (formula_number b))
    (value_set record_refusals (is 6 tt) (is 14 tt) (is 7 tt) (is 8 tt) s r (shape_of r b) (lo_of b) (hi_of b) (words_of r b))
content s EndRecord r b w = end_set record_refusals (is 4 tt) w.seen w.count (count_of b)
content s Unknown r b w = none record_refusals

pub fault : (s : ℕ) (bytes : List ℕ) (from : ℕ) (w : Walk) → of_record (fault_at s bytes from w)
unfolding fault_at record_fault
fault s bytes from w =
    let b = record_here bytes from w in
    let r = row_for b in
    first record_refusals _ _ (frame_set record_refusals (is 1 tt) (is 2 tt) bytes (w.at - from))
    (first record_refusals _ _ (place from r.class w.at) (first record_refusals _ _ (length-set record_refusals (is 2 tt) r b) (content s r.class r b w)))

-- ---- so no walk is broken by another number

abbrev pub Numbered : ℕ → Walked → Type 0
Numbered from (Ok w) = Unit
Numbered from (Err r) = OneOf (refusals_from from) r.number

-- a record's refusal is one of a sheet's and of a run's
of_both : (from n : ℕ) → OneOf record_refusals n → OneOf (refusals_from from) n
of_both zero n h = inr h
of_both (suc f) n h = h

guarded : (from f at : ℕ) (x : Walked) → of_record f → (f ≡ 0 → Numbered from x) → Numbered from (guard f (λ n. Err (refusal at n)) x)
guarded from f at x h k = go (eqb f 0) refl h
  where
    go : (b : Bool) → eqb f 0 ≡ b → of_record f → Numbered from (cond b x (Err (refusal at f)))
    go true e h = k (eqb-true f 0 e)
    go false e (inl z) = absurd (eqb-false f 0 e z)
    go false e (inr h) = of_both from f h

end : (from : ℕ) (w : Walk) (place n : ℕ) → from ≡ 0 → Numbered from (ending w place n)
unfolding ending
end zero w place n z = go (ltb place n)
  where
    go : (b : Bool) → Numbered 0 (cond b (Err (refusal place 9)) (whole w.count w.found))
    go true = one_of sheet_refusals 9 tt
    go false = tt
end (suc f) w place n z = absurd (let x : ◌≡◌ {A = ℕ} 0 1 = cc in omega arith)

past : (s : ℕ) (bytes : List ℕ) (from : ℕ) (next : Walk → Walked) → ((v : Walk) → Numbered from (next v)) → (w : Walk) → fault_at s bytes from w ≡ 0 → (k : Class) → (row_for (record_here bytes from w)).class ≡ k
    → Numbered from (onward next k (record_here bytes from w) w (length bytes))
past s bytes from next h w z StartRecord e = h _
past s bytes from next h w z FormulaRecord e = h _
past s bytes from next h w z EndRecord e = end from w _ (length bytes) (closed (clear s bytes from w z) e).1
past s bytes from next h w z Unknown e = of_both from 3 (one_of record_refusals 3 tt)

done_or : (from : ℕ) (t : Bool) (w : Walk) (x : Walked) → Numbered from x → Numbered from (cond t (whole w.seen w.found) x)
done_or from true w x h = tt
done_or from false w x h = h

walks : (k s : ℕ) (bytes : List ℕ) (from : ℕ) (w : Walk) → Numbered from (walk_from k s bytes from w)
unfolding walk_from
walks zero s bytes from w = of_both from 4 (one_of record_refusals 4 tt)
walks (suc k) s bytes from w =
    done_or from (run_done bytes from w) w _
    (guarded from (fault_at s bytes from w) w.at _ (fault s bytes from w)
    (λ z. past s bytes from (walk_from k s bytes from) (walks k s bytes from) w z (row_for (record_here bytes from w)).class refl))

pub numbered : (s : ℕ) (bytes : List ℕ) (from : ℕ) (asked : Option ℕ) → Numbered from (walk_of s bytes from asked)
unfolding walk_of
numbered s bytes from asked = walks 66 s bytes from (begin from asked)
