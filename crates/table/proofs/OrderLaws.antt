-- The order of a formula's fields and what its bytes tell of them, each by a test that is computed over the table's rows.
use Rattle.whole.proofs.Basics.{◌≡◌, sym, subst, Bool, true, false, ◌⊎◌, inl, inr, ℕ, ◌+◌, ◌*◌, ◌≤◌, arith, T, eqb}
use mathlib.Core.Bool.{◌&&◌, ◌||◌}
use lib.Dec.{eqb→eq}
use Rattle.table.specs.Table.{rows, row_of, pieces_by}
use Rattle.table.specs.Order.{field_size, Stands, Ordered, Told}
use Rattle.table.specs.declared.Class.TheVariants.{FormulaRecord}
use Rattle.table.specs.declared.Field.{Field}
use Rattle.table.specs.declared.Row.{Row}
use Rattle.table.proofs.Tested.{both, ◌implies◌, Passed, chosen, below, of_class_lem}

either : (a b : Bool) → T (a || b) → T a ⊎ T b
either true b t = inl tt
either false b t = inr t

abbrev stands : Field → ℕ → Bool
stands f place = eqb f.at 0 || eqb f.at place

standing : (f : Field) (place : ℕ) → T (stands f place) → Stands f place
standing f place t = by (either (eqb f.at 0) (eqb f.at place) t)
  where
    by : T (eqb f.at 0) ⊎ T (eqb f.at place) → Stands f place
    by (inl a) = inl (eqb→eq _ _ a)
    by (inr a) = inr (eqb→eq _ _ a)

pub ordered : (c : ℕ) → (row_of c).class ≡ FormulaRecord → Ordered (row_of c)
unfolding rows
ordered c e =
    record {
      mode = standing (row_of c).mode _ (of_class_lem FormulaRecord (λ r. stands r.mode 16) tt c e);
      p = standing (row_of c).p _ (of_class_lem FormulaRecord (λ r. stands r.p (16 + field_size r.mode)) tt c e);
      q = standing (row_of c).q _ (of_class_lem FormulaRecord (λ r. stands r.q (16 + field_size r.mode + field_size r.p)) tt c e);
      head = eqb→eq _ _ (of_class_lem FormulaRecord (λ r. eqb r.head (16 + field_size r.mode + field_size r.p + field_size r.q)) tt c e);
    }

-- ---- what is told

-- a test of those rows in which a field stands nowhere
nowhere : (f : Row → Field) (t : Row → Bool) → Passed (λ r. eqb (f r).at 0 implies t r) → (c : ℕ) → (f (row_of c)).at ≡ 0 → T (t (row_of c))
nowhere f t h c z = chosen (λ r. eqb (f r).at 0) t h c (subst (λ (n : ℕ). T (eqb n 0)) (sym z) tt)

-- as many pieces as p: one for each, or none at all
abbrev by_length : Row → Bool
by_length r = eqb r.base 0 && (eqb r.q.most 0 && (eqb r.p.each 1 || eqb r.p.most 0))

by_length_lem : (r : Row) → T (by_length r) → (p q : ℕ) → p ≤ r.p.most → q ≤ r.q.most → pieces_by r p q ≡ p
unfolding pieces_by
by_length_lem r t p q a b =
    let u = both (eqb r.base 0) _ t in
    let v = both (eqb r.q.most 0) _ u.1 in
    let z : q ≡ 0 = omega (arith, eqb→eq r.q.most 0 v.0, b) in
    rw (eqb→eq r.base 0 u.0, z) (by (either (eqb r.p.each 1) (eqb r.p.most 0) v.1))
  where
    by : T (eqb r.p.each 1) ⊎ T (eqb r.p.most 0) → 0 + r.p.each * p + r.q.each * 0 ≡ p
    by (inl n) = rw (eqb→eq r.p.each 1 n) (omega arith)
    by (inr n) = let z : p ≡ 0 = omega (arith, eqb→eq r.p.most 0 n, a) in rw z (omega arith)

pub told : (c : ℕ) → Told (row_of c)
unfolding rows
told c =
    record {
      p = λ z. by_length_lem (row_of c) (nowhere (λ r. r.p) by_length tt c z);
      q = λ z. eqb→eq _ _ (nowhere (λ r. r.q) (λ r. eqb r.q.most 0) tt c z);
      mode = λ z. eqb→eq _ _ (nowhere (λ r. r.mode) (λ r. eqb r.mode.most 0) tt c z);
      small = (below (λ r. r.p.most) (λ r. 65536) tt c, below (λ r. r.q.most) (λ r. 65536) tt c, below (λ r. r.mode.most) (λ r. 65536) tt c);
    }
