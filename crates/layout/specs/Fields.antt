-- What the bytes of one record say, by the row of its kind.
use Rattle.std.specs.Prelude.{ℕ, ◌+◌, ◌-◌, ◌/◌, ◌≤◌, ◌≡◌, refl, List, [], ◌∷◌, ◌++◌, cond, eqb, length, take, drop, replicate, ℤ, pos, negsuc}
use Rattle.stored.specs.Numbers.{number2, number4, word4}
use Rattle.formula.specs.declared.Kind.{Kind}
use Rattle.formula.specs.declared.Kind.TheVariants.{Polynomial, Rational}
use Rattle.formula.specs.declared.Shape.{Shape}
use Rattle.formula.specs.declared.Formula.{Formula}
use Rattle.formula.specs.Formula.{word_count, stored_words}
use Rattle.table.specs.declared.Class.TheVariants.{FormulaRecord}
use Rattle.table.specs.declared.Field.{Field}
use Rattle.table.specs.declared.Row.{Row}
use Rattle.table.specs.Table.{rows, first_row, row_of, length_by, Within}
use Rattle.table.specs.Rule.{Ruled}

-- ---- a record in a sheet: the bytes from a place on, as many as the number there says
unfoldable pub bytes_at : List ℕ → ℕ → List ℕ
bytes_at s at = take (number4 s at) (drop at s)

-- the sheet's bytes reach so far
pub record Reaches (s : List ℕ) (at : ℕ) : Type 0 where
  pub number : at + 4 ≤ length s
  pub whole : at + number4 s at ≤ length s

-- ---- the kind's code, a start's or an end's count, and a formula's number, lo and hi
abbrev pub code_of : List ℕ → ℕ
code_of b = number2 b 4

abbrev pub count_of : List ℕ → ℕ
count_of b = number2 b 6

abbrev pub formula_number : List ℕ → ℕ
formula_number b = number2 b 6

abbrev pub lo_of : List ℕ → ℤ
lo_of b = word4 b 8

abbrev pub hi_of : List ℕ → ℤ
hi_of b = word4 b 12

-- the row of the record's kind
abbrev pub row_for : List ℕ → Row
row_for b = row_of (code_of b)

-- the first count: where it stands nowhere, the number of words by the record's length
unfoldable pub first_count : Row → List ℕ → ℕ
first_count r b = cond (eqb r.p.at 0) ((length b - r.head) / 4) (number2 b r.p.at)

-- the second count, or the mode: 0 where it stands nowhere
unfoldable pub field_of : Field → List ℕ → ℕ
field_of f b = cond (eqb f.at 0) 0 (number2 b f.at)

abbrev pub shape : Kind → ℕ → ℕ → ℕ → Shape
shape k p q m = record { kind = k; p = p; q = q; mode = m }

unfoldable pub shape_of : Row → List ℕ → Shape
shape_of r b = shape r.kind (first_count r b) (field_of r.q b) (field_of r.mode b)

-- ---- the formula. Its words stand behind the head, as many as its kind and counts ask for; in an array there are zeros behind them, 32 in all
abbrev pub words_of : Row → List ℕ → List ℤ
words_of r b = stored_words (shape_of r b) b r.head

unfoldable pub padded : List ℤ → List ℤ
padded l = l ++ replicate (32 - length l) (pos 0)

abbrev pub formula : ℕ → Shape → ℤ → ℤ → List ℤ → Formula
formula n h l u w = record { number = n; shape = h; lo = l; hi = u; words = w }

unfoldable pub formula_of : Row → List ℕ → Formula
formula_of r b = formula (formula_number b) (shape_of r b) (lo_of b) (hi_of b) (padded (words_of r b))

-- a formula's own words: as many of the array's as its kind and counts ask for
abbrev pub words_by : Shape → List ℤ → List ℤ
words_by h ws = take (word_count h.kind h.p h.q) ws

abbrev pub words_in : Formula → List ℤ
words_in f = words_by f.shape f.words

-- ---- counts in their ranges, and the length that they ask for
pub record Laid (r : Row) (b : List ℕ) : Type 0 where
  pub p : Within r.p (shape_of r b).p
  pub q : Within r.q (shape_of r b).q
  pub exact : length_by r (shape_of r b).p (shape_of r b).q ≡ length b

-- the bytes of a formula record, of the length that its kind and counts ask for
pub record Complete (r : Row) (b : List ℕ) : Type 0 where
  pub ruled : Ruled r
  pub class : r.class ≡ FormulaRecord
  pub least : 16 ≤ length b
  pub most : length b ≤ 120
  pub laid : Laid r b

-- ---- worked examples: a polynomial of 24 bytes has two coefficients; a rational's counts are stored
by_length_lem : shape_of (row_of 0x0010) (replicate 24 0) ≡ shape Polynomial 2 0 0
unfolding rows first_row row_of number2 first_count field_of shape_of
by_length_lem = refl

by_fields : shape_of (row_of 0x0011) (replicate 16 0 ++ (3 ∷ 0 ∷ 2 ∷ 0 ∷ [])) ≡ shape Rational 3 2 0
unfolding rows first_row row_of number2 first_count field_of shape_of
by_fields = refl

-- a polynomial of two coefficients has two words
two_words : words_in (formula 1 (shape Polynomial 2 0 0) (pos 0) (pos 5) (padded (negsuc 3 ∷ pos 0 ∷ []))) ≡ negsuc 3 ∷ pos 0 ∷ []
unfolding padded
two_words = refl

-- the root of the paper's listing
abbrev paper_root : List ℕ
paper_root = 0x10 ∷ 0 ∷ 0 ∷ 0 ∷ 0x13 ∷ 0 ∷ 1 ∷ 0 ∷ 0 ∷ 0 ∷ 0 ∷ 0 ∷ 0 ∷ 0 ∷ 0 ∷ 2 ∷ []

by_name : (code_of paper_root ≡ 0x0013) × (formula_number paper_root ≡ 1) × (lo_of paper_root ≡ pos 0) × (hi_of paper_root ≡ pos 33554432)
unfolding number2 number4
by_name = (refl, refl, refl, refl)

-- the second record of two, the first with one byte behind its length and the second with two; a third byte follows
cut_out : bytes_at (5 ∷ 0 ∷ 0 ∷ 0 ∷ 7 ∷ 6 ∷ 0 ∷ 0 ∷ 0 ∷ 8 ∷ 9 ∷ 1 ∷ []) 5 ≡ 6 ∷ 0 ∷ 0 ∷ 0 ∷ 8 ∷ 9 ∷ []
unfolding bytes_at number4
cut_out = refl
