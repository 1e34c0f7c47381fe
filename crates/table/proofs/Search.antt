-- The search for a code, as a `match` on the code's names meets it.
use Rattle.whole.proofs.Basics.{◌≡◌, ◌∙◌, refl, sym, ap, List, [], ◌∷◌, ℕ, eqb, get_or, ne_eqb}
use mathlib.Core.List.{map}
use Rattle.table.specs.Table.{rows, unknown, first_row, row_of}
use Rattle.table.specs.Lines.{line}
use Rattle.formula.specs.declared.Kind.TheVariants.{Polynomial}
use Rattle.table.specs.declared.Class.TheVariants.{StartRecord}
use Rattle.table.specs.declared.Line.{Line}
use Rattle.table.specs.declared.Row.{Row}

-- what a list of lines has past its end
abbrev blank : Line
blank = record { code = 0; class = StartRecord; kind = Polynomial; numbers = [] }

-- ---- in the arm of a row: t is the table as the code has it, k the row's code
pub arm : (i : ℕ) {t : List Line} {c k : ℕ} → t ≡ map line rows → c ≡ k → get_or (map line rows) i blank ≡ line (row_of k) → get_or t i blank ≡ line (row_of c)
arm i e n g = ap (λ (l : List Line). get_or l i blank) e ∙ g ∙ ap (λ (m : ℕ). line (row_of m)) (sym n)

-- ---- in the last arm: the code is that of no row, as a `match` says it
abbrev pub Missed : Type 0 → List Row → ℕ → Type 0
Missed N [] c = N
Missed N (r ∷ rs) c = Missed (N × (c ≡ r.code → ⊥)) rs c

past : (c : ℕ) (r : Row) (rs : List Row) → (c ≡ r.code → ⊥) → unknown ≡ first_row (λ x. eqb x.code c) rs → unknown ≡ first_row (λ x. eqb x.code c) (r ∷ rs)
unfolding first_row
past c r rs h e = simp (ne_eqb _ _ (λ (f : r.code ≡ c). h (sym f))) e

pub missed : (N : Type 0) (l : List Row) (c : ℕ) → Missed N l c → (unknown ≡ first_row (λ r. eqb r.code c) l) × N
unfolding first_row
missed N [] c m = (refl, m)
missed N (r ∷ rs) c m = let k = missed (N × (c ≡ r.code → ⊥)) rs c m in (past c r rs k.1.1 k.0, k.1.0)
