-- From a code to its row and back, from a kind to its row and back, and the one row of a start and of an end.
use Rattle.whole.proofs.Basics.{◌≡◌, ◌∙◌, refl, sym, ap, subst, Bool, true, false, cond, ◌⊎◌, inl, inr, List, [], ◌∷◌, ℕ, ◌<◌, arith, T, eqb, ltb, eqb-true}
use mathlib.Core.Bool.{◌&&◌}
use lib.Dec.{eqb→eq, ltb→lt}
use Rattle.formula.specs.declared.Kind.{Kind}
use Rattle.formula.specs.declared.Kind.TheVariants.{Polynomial, Rational, Fraction, Root, Odd, Even, NoFormula}
use Rattle.table.specs.Table.{rows, unknown, first_row, row_of}
use Rattle.table.specs.Codes.{of_class, of_kind, code_for, start_row, end_row}
use Rattle.table.specs.Rule.{Framing, Known}
use Rattle.table.specs.declared.Class.{Class}
use Rattle.table.specs.declared.Class.TheVariants.{StartRecord, FormulaRecord, EndRecord, Unknown}
use Rattle.table.specs.declared.Row.{Row}
use Rattle.table.proofs.Tested.{found, of_class_lem, of_framing}

-- ---- a code

by_code : (c : ℕ) (l : List Row) → (first_row (λ r. eqb r.code c) l ≡ unknown) ⊎ ((first_row (λ r. eqb r.code c) l).code ≡ c)
unfolding first_row
by_code c [] = inl refl
by_code c (r ∷ rs) = at (by_code c rs) (eqb r.code c) refl
  where
    rest : Row
    rest = first_row (λ r. eqb r.code c) rs

    at : (rest ≡ unknown) ⊎ (rest.code ≡ c) → (t : Bool) → eqb r.code c ≡ t → (cond t r rest ≡ unknown) ⊎ ((cond t r rest).code ≡ c)
    at further true e = inr (eqb-true _ _ e)
    at further false e = further

pub code_found : {k : Class} (c : ℕ) → (row_of c).class ≡ k → Known k → (row_of c).code ≡ c
unfolding row_of
code_found c e h = at (by_code c rows)
  where
    at : (row_of c ≡ unknown) ⊎ ((row_of c).code ≡ c) → (row_of c).code ≡ c
    at (inl z) = absurd (subst Known (sym e ∙ ap (λ (r : Row). r.class) z) h)
    at (inr z) = z

-- ---- a kind

-- kind by kind: a new one adds its own
pub kind_of_row : (k : Kind) → (row_of (code_for k)).kind ≡ k
unfolding row_of code_for first_row rows
kind_of_row Polynomial = refl
kind_of_row Rational = refl
kind_of_row Fraction = refl
kind_of_row Root = refl
kind_of_row Odd = refl
kind_of_row Even = refl
kind_of_row NoFormula = refl

-- a kind that has a code is a formula's
pub class_of_row : (k : Kind) → (code_for k ≡ 0 → ⊥) → (row_of (code_for k)).class ≡ FormulaRecord
unfolding row_of code_for first_row rows
class_of_row Polynomial h = refl
class_of_row Rational h = refl
class_of_row Fraction h = refl
class_of_row Root h = refl
class_of_row Odd h = refl
class_of_row Even h = refl
class_of_row NoFormula h = absurd (h refl)

pub code_of_row : (k : Kind) → (row_of (code_for k)).code ≡ code_for k
unfolding row_of code_for first_row rows
code_of_row k = eqb→eq _ _ (found (λ r. eqb (row_of r.code).code r.code) tt (λ r. of_class FormulaRecord r && of_kind k r))

pub code_fits : (k : Kind) → code_for k < 65536
unfolding code_for rows
code_fits k = ltb→lt _ _ (found (λ r. ltb r.code 65536) tt (λ r. of_class FormulaRecord r && of_kind k r))

-- a formula's kind names its row
pub code_again : (c : ℕ) → (row_of c).class ≡ FormulaRecord → code_for (row_of c).kind ≡ (row_of c).code
unfolding code_for first_row rows
code_again c e = eqb→eq _ _ (of_class_lem FormulaRecord (λ r. eqb (code_for r.kind) r.code) tt c e)

pub row_by_kind : (c : ℕ) → (row_of c).class ≡ FormulaRecord → row_of (code_for (row_of c).kind) ≡ row_of c
row_by_kind c e = ap row_of (code_again c e ∙ code_found c e tt)

-- a formula's row has a kind, and no other has
pub formula_kind : (c : ℕ) → (row_of c).class ≡ FormulaRecord → (row_of c).kind ≡ NoFormula → ⊥
unfolding code_for first_row rows
formula_kind c e z =
    let h : 0 < code_for (row_of c).kind = ltb→lt _ _ (of_class_lem FormulaRecord (λ r. ltb 0 (code_for r.kind)) tt c e) in
    let n : code_for (row_of c).kind ≡ 0 = ap code_for z in
    omega arith

-- a class that is no formula's
pub no_formula_lem : (k : Class) → (k ≡ FormulaRecord → ⊥) → Framing k
no_formula_lem StartRecord h = tt
no_formula_lem FormulaRecord h = h refl
no_formula_lem EndRecord h = tt
no_formula_lem Unknown h = tt

pub other_kind : (c : ℕ) → Framing (row_of c).class → (row_of c).kind ≡ NoFormula
unfolding row_of code_for first_row rows
other_kind c h =
    sym (kind_of_row (row_of c).kind)
    ∙ ap (λ (n : ℕ). (row_of n).kind) (eqb→eq (code_for (row_of c).kind) 0 (of_framing (λ r. eqb (code_for r.kind) 0) tt c h))

-- ---- a start and an end

one_row : {k : Class} (w : Row) (c : ℕ) → row_of w.code ≡ w → (row_of c).class ≡ k → Known k → T (eqb (row_of c).code w.code) → row_of c ≡ w
one_row w c n e h t = ap row_of (sym (code_found c e h) ∙ eqb→eq (row_of c).code w.code t) ∙ n

pub start_row_lem : (c : ℕ) → (row_of c).class ≡ StartRecord → row_of c ≡ start_row
unfolding row_of start_row first_row rows
start_row_lem c e = one_row start_row c refl e tt (of_class_lem StartRecord (λ r. eqb r.code start_row.code) tt c e)

pub end_row_lem : (c : ℕ) → (row_of c).class ≡ EndRecord → row_of c ≡ end_row
unfolding row_of end_row first_row rows
end_row_lem c e = one_row end_row c refl e tt (of_class_lem EndRecord (λ r. eqb r.code end_row.code) tt c e)
