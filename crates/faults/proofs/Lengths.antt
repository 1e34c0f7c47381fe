-- A number out of its range; a record without a fault in counts and length; and a row without counts, whose records have one length: the tests taken one by one.
use Rattle.whole.proofs.Basics.{◌≡◌, refl, sym, ap, Bool, true, false, cond, List, ℕ, suc, zero, ◌+◌, ◌-◌, ◌*◌, ◌/◌, ◌≤◌, arith, eqb, ltb, length, eqb-true, eqb-false, ltb-true, ltb-false, eq-eqb, ne_eqb, lt-ltb, le-ltb}
use native.Mathlib.Nat.{mul-zero}
use Rattle.table.specs.declared.Field.{Field}
use Rattle.table.specs.declared.Row.{Row}
use Rattle.table.specs.Table.{pieces_by, length_by, Within}
use Rattle.table.specs.Rule.{Bare}
use Rattle.layout.specs.Fields.{first_count, field_of, shape_of, Laid}
use Rattle.refusal.specs.Guard.{number_of, numbered, or_else}
use Rattle.refusal.specs.declared.Fault.{Fault}
use Rattle.faults.specs.Faults.{outside, outside_by, count_fault, size_fault, length_fault}
use Rattle.faults.proofs.Chain.{passed, met, neither}
use Rattle.std.specs.Prelude.{Err, Ok}

-- what a check answers, by the paper's number
pub outside_number : (f : Field) (n : ℕ) (k : Fault) → numbered (outside_by f n k) ≡ outside f n (number_of k)
unfolding outside
outside_number f n k = at (ltb n f.least) (ltb f.most n)
  where
    at : (t u : Bool) → numbered (cond t (Err k) (cond u (Err k) (Ok tt))) ≡ cond t (number_of k) (cond u (number_of k) 0)
    at true u = refl
    at false true = refl
    at false false = refl

pub inside : (f : Field) (n k : ℕ) → (k ≡ 0 → ⊥) → outside f n k ≡ 0 → Within f n
unfolding outside
inside f n k h e =
    let a = passed (ltb n f.least) k _ h e in
    let b = passed (ltb f.most n) k 0 h a.1 in
    (ltb-false _ _ a.0, ltb-false _ _ b.0)

pub counted : (r : Row) (p q : ℕ) → count_fault r p q ≡ 0 → Within r.p p × Within r.q q
unfolding count_fault
counted r p q e =
    let f = neither (outside r.p p 2) _ e in
    (inside r.p p 2 (λ z. omega arith) f.0, inside r.q q 2 (λ z. omega arith) f.1)

-- a row without counts has one length
pub bare_length : (r : Row) (b : List ℕ) → Bare r → length_fault r b ≡ cond (eqb (length b) r.head) 0 2
unfolding outside count_fault size_fault length_fault first_count field_of shape_of pieces_by
bare_length r b u = rw (u.base, u.p, u.q) (by r.head (length b) (r.width * (0 + 0 * ((length b - r.head) / 4) + 0 * 0)) _ (omega (arith, mul-zero r.width)) refl)
  where
    by : (h n m p : ℕ) → m ≡ 0 → p ≡ (n - h) / 4
        → cond (ltb n h) 2 (or_else (or_else (cond (ltb p 0) 2 (cond (ltb 0 p) 2 0)) 0) (cond (eqb (h + m) n) 0 2)) ≡ cond (eqb n h) 0 2
    by h n m zero z e = at (ltb n h) refl (eqb n h) refl
      where
        at : (t : Bool) → ltb n h ≡ t → (u : Bool) → eqb n h ≡ u → ◌≡◌ {A = ℕ} (cond t 2 (cond (eqb (h + m) n) 0 2)) (cond u 0 2)
        at true a true d = absurd (let k = ltb-true n h a in let l = eqb-true n h d in omega arith)
        at true a false d = refl
        at false a true d = let l = eqb-true n h d in ap (λ (t : Bool). cond t 0 2) (eq-eqb (h + m) n (omega arith))
        at false a false d = let l = eqb-false n h d in ap (λ (t : Bool). cond t 0 2) (ne_eqb (h + m) n (λ q. l (omega arith)))
    by h n m (suc p) z e = rw (le-ltb (suc p) 0 (omega arith), lt-ltb 0 (suc p) (omega arith)) (at (ltb n h))
      where
        more : n ≡ h → ⊥
        more q = omega arith

        at : (t : Bool) → ◌≡◌ {A = ℕ} (cond t 2 2) (cond (eqb n h) 0 2)
        at true = ap (λ (t : Bool). cond t 0 2) (sym (ne_eqb n h more))
        at false = ap (λ (t : Bool). cond t 0 2) (sym (ne_eqb n h more))

pub laid : (r : Row) (b : List ℕ) → length_fault r b ≡ 0 → Laid r b
unfolding length_fault size_fault
laid r b e =
    let h = shape_of r b in
    let f = passed (ltb (length b) r.head) 2 _ (λ z. omega arith) e in
    let g = neither (count_fault r h.p h.q) _ f.1 in
    let c = counted r h.p h.q g.0 in
    record { p = c.0; q = c.1; exact = eqb-true _ _ (met (eqb (length_by r h.p h.q) (length b)) 0 2 (λ z. omega arith) g.1).0 }

-- where a count is without fault it is in its range
pub first_in : (r : Row) (p q : ℕ) → 0 ≡ count_fault r p q → p ≤ r.p.most
first_in r p q e = (counted r p q (sym e)).0.1

pub second_in : (r : Row) (p q : ℕ) → 0 ≡ count_fault r p q → q ≤ r.q.most
second_in r p q e = (counted r p q (sym e)).1.1
