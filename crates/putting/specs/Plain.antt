-- A formula as code hands it over, and the formula with the fields that its kind has not at 0.
use Rattle.std.specs.Prelude.{ℕ, ◌<◌, ◌≡◌, refl, [], ◌∷◌, cond, eqb, length, get_or, pos}
use Rattle.std.specs.Int.{w32}
use Rattle.std.proofs.Common.{SFits}
use Rattle.formula.specs.declared.Kind.TheVariants.{Polynomial, Root}
use Rattle.formula.specs.declared.Shape.{Shape}
use Rattle.formula.specs.declared.Formula.{Formula}
use Rattle.table.specs.declared.Field.{Field}
use Rattle.table.specs.declared.Row.{Row}
use Rattle.table.specs.Table.{rows, first_row, row_of}
use Rattle.table.specs.Codes.{code_for}
use Rattle.layout.specs.Fields.{shape, formula, padded, words_by}

-- each number fits its bytes, and there are 32 words
pub record Handed (f : Formula) : Type 0 where
  pub number : f.number < 65536
  pub mode : f.shape.mode < 65536
  pub lo : SFits w32 f.lo
  pub hi : SFits w32 f.hi
  pub each : (k : ℕ) → SFits w32 (get_or f.words k (pos 0))
  pub long : length f.words ≡ 32

-- the row of the formula's kind
abbrev pub row_by : Formula → Row
row_by f = row_of (code_for f.shape.kind)

-- a count or a mode; 0 where the kind has none, whose range is then 0 to 0
unfoldable pub kept : Field → ℕ → ℕ
kept f n = cond (eqb f.most 0) 0 n

unfoldable pub plain_shape : Row → Shape → Shape
plain_shape r h = shape h.kind (kept r.p h.p) (kept r.q h.q) (kept r.mode h.mode)

unfoldable pub plain_by : Row → Formula → Formula
plain_by r f = formula f.number (plain_shape r f.shape) f.lo f.hi (padded (words_by (plain_shape r f.shape) f.words))

-- the fields that its kind has not at 0, and each word past the last
abbrev pub plain : Formula → Formula
plain f = plain_by (row_by f) f

-- ---- worked examples: a root has neither counts, mode nor words, a polynomial neither second count nor mode
root_plain : plain (formula 1 (shape Root 7 7 7) (pos 0) (pos 9) (padded (pos 5 ∷ []))) ≡ formula 1 (shape Root 0 0 0) (pos 0) (pos 9) (padded [])
unfolding rows first_row row_of code_for padded kept plain_shape plain_by
root_plain = refl

polynomial_plain : plain (formula 1 (shape Polynomial 1 7 7) (pos 0) (pos 9) (padded (pos 5 ∷ pos 6 ∷ []))) ≡ formula 1 (shape Polynomial 1 0 0) (pos 0) (pos 9) (padded (pos 5 ∷ []))
unfolding rows first_row row_of code_for padded kept plain_shape plain_by
polynomial_plain = refl
