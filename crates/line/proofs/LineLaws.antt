-- A record's line, part by part, each by the record's own bytes; and how long a line is at most.
use Rattle.whole.proofs.Basics.{◌≡◌, ◌++◌, List, ℕ, ◌≤◌, ◌<◌, arith, append_assoc, length, length-append, w32, SFits}
use Rattle.formula.specs.declared.Kind.{Kind}
use Rattle.formula.specs.declared.Kind.TheVariants.{Polynomial, Rational, Fraction, Root, Odd, Even, NoFormula}
use Rattle.formula.specs.declared.Formula.{Formula}
use Rattle.layout.specs.Fields.{formula_number, lo_of, hi_of, row_for, formula_of, shape_of}
use Rattle.refusal.specs.declared.Refusal.{Refusal}
use Rattle.text.proofs.TextLaws.{three_digits, five_digits, twenty_digits, short_signed}
use Rattle.text.specs.Text.{text, decimal}
use Rattle.line.specs.Line.{kind_name, interval_text, line_of, count_line, refusal_line}

pub parts : (b : List ℕ) → line_of (formula_of (row_for b) b)
    ≡ decimal (formula_number b) ++ (text " " ++ (kind_name (row_for b).kind ++ interval_text (lo_of b) (hi_of b)))
unfolding line_of formula_of shape_of
parts b = simp append_assoc

-- ---- lengths

short_kind : (k : Kind) → length (kind_name k) ≤ 10
short_kind Polynomial = omega arith
short_kind Rational = omega arith
short_kind Fraction = omega arith
short_kind Root = omega arith
short_kind Odd = omega arith
short_kind Even = omega arith
short_kind NoFormula = omega arith

pub short_line : (f : Formula) → f.number < 65536 → SFits w32 f.lo → SFits w32 f.hi → length (line_of f) ≤ 41
unfolding line_of
short_line f n p q =
    simp length-append (omega (arith, five_digits f.number n, short_kind f.shape.kind, short_signed f.lo p, short_signed f.hi q))

pub short_count : (c : ℕ) → c < 65536 → length (count_line c) ≤ 15
unfolding count_line
short_count c h = simp length-append (omega (arith, five_digits c h))

pub short_refusal : (r : Refusal) → r.number < 256 → r.place < 18446744073709551616 → length (refusal_line r) ≤ 36
unfolding refusal_line
short_refusal r n p = simp length-append (omega (arith, three_digits r.number n, twenty_digits r.place p))
