-- The table of record kinds, a row for each; the row of a code, and how long its records are.
use Rattle.std.specs.Prelude.{ℕ, ◌+◌, ◌*◌, ◌≤◌, ◌≡◌, refl, List, [], ◌∷◌, Bool, cond, eqb}
use Rattle.formula.specs.declared.Kind.{Kind}
use Rattle.formula.specs.declared.Kind.TheVariants.{Polynomial, Rational, Fraction, Root, Odd, Even, NoFormula}
use Rattle.table.specs.declared.Class.{Class}
use Rattle.table.specs.declared.Class.TheVariants.{StartRecord, FormulaRecord, EndRecord, Unknown}
use Rattle.table.specs.declared.Field.{Field}
use Rattle.table.specs.declared.Row.{Row}

-- where it stands, its range, how many pieces for each one of it
abbrev pub field : ℕ → ℕ → ℕ → ℕ → Field
field a l m e = record { at = a; least = l; most = m; each = e }

abbrev pub none : Field
none = field 0 0 0 0

-- the count of a start and of an end
abbrev pub framing_count : Field
framing_count = field 6 1 64 0

abbrev pub row : ℕ → Class → Kind → ℕ → ℕ → ℕ → Field → Field → Field → Field → Row
row c s k h w b p q m n = record { code = c; class = s; kind = k; head = h; width = w; base = b; p = p; q = q; mode = m; count = n }

-- a polynomial: its coefficients are its pieces, as many as its length says. An odd and an even one are laid out as it is
abbrev pub polynomial_row : ℕ → Kind → Row
polynomial_row c k = row c FormulaRecord k 16 4 0 (field 0 1 16 1) none none none

-- code, class, kind, bytes in front of the pieces, bytes of a piece, pieces besides those of p and q; p, q, mode and count
unfoldable pub rows : List Row
rows =
    row 0x0001 StartRecord NoFormula 8 0 0 none none none framing_count
    ∷ polynomial_row 0x0010 Polynomial
    ∷ row 0x0011 FormulaRecord Rational 20 4 0 (field 16 1 12 1) (field 18 1 12 1) none none
    ∷ row 0x0012 FormulaRecord Fraction 20 4 1 (field 18 1 12 2) none (field 16 0 2 0) none
    ∷ row 0x0013 FormulaRecord Root 16 4 0 none none none none
    ∷ polynomial_row 0x0014 Odd
    ∷ polynomial_row 0x0015 Even
    ∷ row 0xffff EndRecord NoFormula 8 0 0 none none none framing_count
    ∷ []

abbrev pub unknown : Row
unknown = row 0 Unknown NoFormula 8 0 0 none none none none

-- the first row that passes a test, if there is one
unfoldable pub first_row : (Row → Bool) → List Row → Row
first_row t [] = unknown
first_row t (r ∷ rs) = cond (t r) r (first_row t rs)

unfoldable pub row_of : ℕ → Row
row_of c = first_row (λ r. eqb r.code c) rows

-- how many pieces, and how many bytes, a record of the row has for two counts
unfoldable pub pieces_by : Row → ℕ → ℕ → ℕ
pieces_by r p q = r.base + r.p.each * p + r.q.each * q

abbrev pub length_by : Row → ℕ → ℕ → ℕ
length_by r p q = r.head + r.width * pieces_by r p q

-- a count in its range
abbrev pub Within : Field → ℕ → Type 0
Within f n = (f.least ≤ n) × (n ≤ f.most)

-- ---- worked examples: each line of the paper's table, with its least and its greatest length
start_line : ((row_of 0x0001).class ≡ StartRecord) × ((row_of 0x0001).kind ≡ NoFormula) × (length_by (row_of 0x0001) 0 0 ≡ 8)
unfolding rows first_row row_of pieces_by
start_line = (refl, refl, refl)

polynomial_line : ((row_of 0x0010).class ≡ FormulaRecord) × ((row_of 0x0010).kind ≡ Polynomial) × (length_by (row_of 0x0010) 1 0 ≡ 20) × (length_by (row_of 0x0010) 16 0 ≡ 80)
unfolding rows first_row row_of pieces_by
polynomial_line = (refl, refl, refl, refl)

rational_line : ((row_of 0x0011).class ≡ FormulaRecord) × ((row_of 0x0011).kind ≡ Rational) × (length_by (row_of 0x0011) 1 1 ≡ 28) × (length_by (row_of 0x0011) 12 12 ≡ 116)
unfolding rows first_row row_of pieces_by
rational_line = (refl, refl, refl, refl)

fraction_line : ((row_of 0x0012).class ≡ FormulaRecord) × ((row_of 0x0012).kind ≡ Fraction) × (length_by (row_of 0x0012) 1 0 ≡ 32) × (length_by (row_of 0x0012) 12 0 ≡ 120)
unfolding rows first_row row_of pieces_by
fraction_line = (refl, refl, refl, refl)

root_line : ((row_of 0x0013).class ≡ FormulaRecord) × ((row_of 0x0013).kind ≡ Root) × (length_by (row_of 0x0013) 0 0 ≡ 16)
unfolding rows first_row row_of pieces_by
root_line = (refl, refl, refl)

odd_line : ((row_of 0x0014).class ≡ FormulaRecord) × ((row_of 0x0014).kind ≡ Odd) × (length_by (row_of 0x0014) 1 0 ≡ 20) × (length_by (row_of 0x0014) 16 0 ≡ 80)
unfolding rows first_row row_of pieces_by
odd_line = (refl, refl, refl, refl)

even_line : ((row_of 0x0015).class ≡ FormulaRecord) × ((row_of 0x0015).kind ≡ Even) × (length_by (row_of 0x0015) 1 0 ≡ 20) × (length_by (row_of 0x0015) 16 0 ≡ 80)
unfolding rows first_row row_of pieces_by
even_line = (refl, refl, refl, refl)

end_line : ((row_of 0xffff).class ≡ EndRecord) × ((row_of 0xffff).kind ≡ NoFormula) × (length_by (row_of 0xffff) 0 0 ≡ 8)
unfolding rows first_row row_of pieces_by
end_line = (refl, refl, refl)

-- the whole row of a root
root_row : row_of 0x0013 ≡ row 0x0013 FormulaRecord Root 16 4 0 none none none none
unfolding rows first_row row_of
root_row = refl

-- unknown kinds: below, between and above the table's
no_line : ((row_of 0x0000).class ≡ Unknown) × ((row_of 0x0002).class ≡ Unknown) × ((row_of 0x0016).class ≡ Unknown) × ((row_of 0xfffe).class ≡ Unknown)
unfolding rows first_row row_of
no_line = (refl, refl, refl, refl)

-- the counts, depth and mode: where they stand, their least and most, and the pieces for each
start_and_end_count : ((row_of 0x0001).count ≡ field 6 1 64 0) × ((row_of 0xffff).count ≡ field 6 1 64 0)
unfolding rows first_row row_of
start_and_end_count = (refl, refl)

polynomial_counts : ((row_of 0x0010).p ≡ field 0 1 16 1) × ((row_of 0x0014).p ≡ field 0 1 16 1) × ((row_of 0x0015).p ≡ field 0 1 16 1)
unfolding rows first_row row_of
polynomial_counts = (refl, refl, refl)

rational_counts : ((row_of 0x0011).p ≡ field 16 1 12 1) × ((row_of 0x0011).q ≡ field 18 1 12 1)
unfolding rows first_row row_of
rational_counts = (refl, refl)

mode_and_depth : ((row_of 0x0012).mode ≡ field 16 0 2 0) × ((row_of 0x0012).p ≡ field 18 1 12 2)
unfolding rows first_row row_of
mode_and_depth = (refl, refl)

-- 3 and 5 coefficients are 8 words
unequal_counts : length_by (row_of 0x0011) 3 5 ≡ 52
unfolding rows first_row row_of pieces_by
unequal_counts = refl

-- a fraction of depth 2 has b0, a1, b1, a2, b2
depth_two : pieces_by (row_of 0x0012) 2 0 ≡ 5
unfolding rows first_row row_of pieces_by
depth_two = refl
