-- One line of a listing: a formula's, the count's, a refusal's.
use Rattle.std.specs.Prelude.{ℕ, ◌≡◌, refl, List, [], ◌++◌, ℤ, pos, negsuc}
use Rattle.formula.specs.declared.Kind.{Kind}
use Rattle.formula.specs.declared.Kind.TheVariants.{Polynomial, Rational, Fraction, Root, Odd, Even, NoFormula}
use Rattle.formula.specs.declared.Formula.{Formula}
use Rattle.layout.specs.Fields.{shape, padded, formula}
use Rattle.refusal.specs.declared.Refusal.{Refusal}
use Rattle.text.specs.Text.{text, digits_by, decimal, signed}

abbrev pub kind_name : Kind → List ℕ
kind_name Polynomial = text "polynomial"
kind_name Rational = text "rational"
kind_name Fraction = text "fraction"
kind_name Root = text "root"
kind_name Odd = text "odd"
kind_name Even = text "even"
kind_name NoFormula = []

-- lo and hi as signed decimal words, and the line's end
abbrev pub interval_text : ℤ → ℤ → List ℕ
interval_text lo hi = text " " ++ signed lo ++ text " " ++ signed hi ++ text "\n"

-- number, kind name, lo and hi
unfoldable pub line_of : Formula → List ℕ
line_of f = decimal f.number ++ text " " ++ kind_name f.shape.kind ++ interval_text f.lo f.hi

unfoldable pub count_line : ℕ → List ℕ
count_line c = text "formulas " ++ decimal c ++ text "\n"

unfoldable pub refusal_line : Refusal → List ℕ
refusal_line r = text "refused " ++ decimal r.number ++ text " at " ++ decimal r.place ++ text "\n"

-- ---- worked examples: both ends of an interval
both_ends : interval_text (negsuc 0) (pos 10) ≡ text " -1 10\n"
unfolding digits_by decimal
both_ends = refl

-- the kinds' names; a negative end
names :
    (line_of (formula 2 (shape Rational 1 1 0) (pos 0) (pos 1) (padded [])) ≡ text "2 rational 0 1\n")
    × (line_of (formula 3 (shape Fraction 1 0 0) (pos 0) (pos 1) (padded [])) ≡ text "3 fraction 0 1\n")
    × (line_of (formula 4 (shape Root 0 0 0) (pos 0) (pos 1) (padded [])) ≡ text "4 root 0 1\n")
    × (line_of (formula 5 (shape Odd 1 0 0) (pos 0) (pos 1) (padded [])) ≡ text "5 odd 0 1\n")
    × (line_of (formula 6 (shape Even 1 0 0) (pos 0) (pos 1) (padded [])) ≡ text "6 even 0 1\n")
unfolding line_of digits_by decimal
names = (refl, refl, refl, refl, refl)

negative_end : line_of (formula 7 (shape Polynomial 1 0 0) (negsuc 33554431) (pos 33554432) (padded [])) ≡ text "7 polynomial -33554432 33554432\n"
unfolding line_of digits_by decimal
negative_end = refl
