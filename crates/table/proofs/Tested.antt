-- What holds of every row, and of the unknown one, holds of the row that a search finds: by a test that is computed over them all.
use Rattle.whole.proofs.Basics.{◌≡◌, subst, Bool, true, false, cond, not, List, [], ◌∷◌, ℕ, ◌≤◌, ◌<◌, T, eqb, ltb, leb}
use mathlib.Core.Bool.{◌&&◌}
use lib.Dec.{leb→le, ltb→lt, eqb_refl}
use Rattle.table.specs.Table.{rows, unknown, first_row, row_of}
use Rattle.table.specs.Codes.{class_tag, of_class}
use Rattle.table.specs.Rule.{Framing}
use Rattle.table.specs.declared.Class.{Class}
use Rattle.table.specs.declared.Class.TheVariants.{StartRecord, FormulaRecord, EndRecord, Unknown}
use Rattle.table.specs.declared.Row.{Row}

pub both : (a b : Bool) → T (a && b) → T a × T b
both true b t = (tt, t)
both false b t = absurd t

infixr 25 ◌implies◌
abbrev pub ◌implies◌ : Bool → Bool → Bool
true implies b = b
false implies b = true

pub implied : (a b : Bool) → T (a implies b) → T a → T b
implied true b t h = t
implied false b t h = absurd h

abbrev every : (Row → Bool) → List Row → Bool
every t [] = true
every t (r ∷ rs) = t r && every t rs

-- a test that each row passes, and the unknown one
abbrev pub Passed : (Row → Bool) → Type 0
Passed t = T (every t (unknown ∷ rows))

in_list : (t u : Row → Bool) → T (t unknown) → (l : List Row) → T (every t l) → T (t (first_row u l))
unfolding first_row
in_list t u n [] h = n
in_list t u n (r ∷ rs) h = let k = both (t r) (every t rs) h in by k.0 (in_list t u n rs k.1) (u r)
  where
    by : T (t r) → T (t (first_row u rs)) → (b : Bool) → T (t (cond b r (first_row u rs)))
    by first rest true = first
    by first rest false = rest

-- ---- of any search, and of the row of a code

pub found : (t : Row → Bool) → Passed t → (u : Row → Bool) → T (t (first_row u rows))
found t h u = let k = both (t unknown) (every t rows) h in in_list t u k.0 rows k.1

pub tested : (t : Row → Bool) → Passed t → (c : ℕ) → T (t (row_of c))
unfolding row_of
tested t h c = found t h (λ r. eqb r.code c)

pub at_most : (f g : Row → ℕ) → Passed (λ r. leb (f r) (g r)) → (c : ℕ) → f (row_of c) ≤ g (row_of c)
at_most f g h c = leb→le _ _ (tested (λ r. leb (f r) (g r)) h c)

pub below : (f g : Row → ℕ) → Passed (λ r. ltb (f r) (g r)) → (c : ℕ) → f (row_of c) < g (row_of c)
below f g h c = ltb→lt _ _ (tested (λ r. ltb (f r) (g r)) h c)

-- ---- of the rows that another test chooses: those of one class, and those that are no formulas

pub chosen : (a t : Row → Bool) → Passed (λ r. a r implies t r) → (c : ℕ) → T (a (row_of c)) → T (t (row_of c))
chosen a t h c = implied (a (row_of c)) (t (row_of c)) (tested (λ r. a r implies t r) h c)

pub of_class_lem : (k : Class) (t : Row → Bool) → Passed (λ r. of_class k r implies t r) → (c : ℕ) → (row_of c).class ≡ k → T (t (row_of c))
of_class_lem k t h c e = chosen (of_class k) t h c (subst (λ (l : Class). T (eqb (class_tag (row_of c).class) (class_tag l))) e (eqb_refl (class_tag (row_of c).class)))

pub of_framing : (t : Row → Bool) → Passed (λ r. not (of_class FormulaRecord r) implies t r) → (c : ℕ) → Framing (row_of c).class → T (t (row_of c))
of_framing t h c f = chosen (λ r. not (of_class FormulaRecord r)) t h c (by (row_of c).class f)
  where
    by : (k : Class) → Framing k → T (not (eqb (class_tag k) (class_tag FormulaRecord)))
    by StartRecord f = tt
    by FormulaRecord f = f
    by EndRecord f = tt
    by Unknown f = tt
