-- From a formula's kind to its code, and the rows of a start and of an end: found in the table.
use Rattle.std.specs.Prelude.{ℕ, ◌≡◌, refl, Bool, true, false, ◌&&◌, eqb}
use Rattle.formula.specs.declared.Kind.{Kind}
use Rattle.formula.specs.declared.Kind.TheVariants.{Polynomial, Rational, Fraction, Root, Odd, Even, NoFormula}
use Rattle.table.specs.declared.Class.{Class}
use Rattle.table.specs.declared.Class.TheVariants.{StartRecord, FormulaRecord, EndRecord, Unknown}
use Rattle.table.specs.declared.Row.{Row}
use Rattle.table.specs.Table.{rows, first_row, row_of}

-- numbers by which classes, and kinds, are told apart
abbrev pub class_tag : Class → ℕ
class_tag StartRecord = 0
class_tag FormulaRecord = 1
class_tag EndRecord = 2
class_tag Unknown = 3

abbrev pub kind_tag : Kind → ℕ
kind_tag NoFormula = 0
kind_tag Polynomial = 1
kind_tag Rational = 2
kind_tag Fraction = 3
kind_tag Root = 4
kind_tag Odd = 5
kind_tag Even = 6

abbrev pub of_class : Class → Row → Bool
of_class k r = eqb (class_tag r.class) (class_tag k)

abbrev pub of_kind : Kind → Row → Bool
of_kind k r = eqb (kind_tag r.kind) (kind_tag k)

-- the code of the kind's formulas; 0, which no row has, for a kind that is no formula
unfoldable pub code_for : Kind → ℕ
code_for k = (first_row (λ r. of_class FormulaRecord r && of_kind k r) rows).code

unfoldable pub start_row : Row
start_row = first_row (of_class StartRecord) rows

unfoldable pub end_row : Row
end_row = first_row (of_class EndRecord) rows

-- ---- worked examples: the paper's codes
formula_codes :
    (code_for Polynomial ≡ 0x0010)
    × (code_for Rational ≡ 0x0011)
    × (code_for Fraction ≡ 0x0012)
    × (code_for Root ≡ 0x0013)
    × (code_for Odd ≡ 0x0014)
    × (code_for Even ≡ 0x0015)
unfolding rows first_row code_for
formula_codes = (refl, refl, refl, refl, refl, refl)

no_formula_code : code_for NoFormula ≡ 0
unfolding rows first_row code_for
no_formula_code = refl

-- a row by its kind
told_apart : (of_kind Root (row_of 0x0013) ≡ true) × (of_kind Root (row_of 0x0012) ≡ false) × (of_kind Root (row_of 0x0001) ≡ false) × (kind_tag NoFormula ≡ 0)
unfolding rows first_row row_of
told_apart = (refl, refl, refl, refl)

pub the_start : row_of 0x0001 ≡ start_row
unfolding rows first_row row_of start_row
the_start = refl

pub the_end : row_of 0xffff ≡ end_row
unfolding rows first_row row_of end_row
the_end = refl
