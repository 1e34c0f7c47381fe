-- Sine and cosine of an angle, by an odd formula of a whole sheet: the reader's refusals, then 15. The binary places are s.
use Rattle.std.specs.Prelude.{◌≡◌, ℕ, Bool, true, false, cond, List, [], ◌∷◌, ℤ, pos, negsuc, ◌≤ℤ◌, int_lt, nat_lt, refl, Err, Ok}
use Rattle.word.specs.Words.{unit, with_sign}
use Rattle.formula.specs.declared.Kind.{Kind}
use Rattle.formula.specs.declared.Kind.TheVariants.{Polynomial, Rational, Fraction, Root, Odd, Even, NoFormula}
use Rattle.formula.specs.declared.Formula.{Formula}
use Rattle.layout.specs.Fields.{shape, formula}
use Rattle.refusal.specs.Guard.{refusal, guard, or_else}
use Rattle.sheet.specs.Reader.{reader_refusals, formula_read, HasFormula, formula_given}
use Rattle.answering.specs.Answering.{refused, answered, with_mark, Evaluation}
use Rattle.board.specs.Board.{when_given, evaluated}
use Rattle.turn.specs.Angles.{quarter_turn, angle_sum, quarter_of, rest_of, argument_in, exact_in}
use Rattle.formula.specs.declared.Worked.{Worked}
use Rattle.formula.specs.Formula.{worked}

-- the refusals that sine and cosine can give: the reader's and 15
abbrev pub sine_refusals : List ℕ
sine_refusals = 15 ∷ reader_refusals

-- ---- 15: the formula is not of the kind odd
abbrev pub odd_fault : Kind → ℕ
odd_fault Polynomial = 15
odd_fault Rational = 15
odd_fault Fraction = 15
odd_fault Root = 15
odd_fault Odd = 0
odd_fault Even = 15
odd_fault NoFormula = 15

-- or its interval does not hold 0 to one: lo is above 0, or hi below one
unfoldable pub span_fault : ℕ → ℤ → ℤ → ℕ
span_fault s lo hi = cond (int_lt (pos 0) lo) 15 (cond (int_lt hi (pos (unit s))) 15 0)

abbrev pub sine_fault : ℕ → Formula → ℕ
sine_fault s f = or_else (odd_fault f.shape.kind) (span_fault s f.lo f.hi)

-- a formula for sine and cosine: of the kind odd, and its interval holds 0 to one, both ends inside
pub record ForSine (s : ℕ) (f : Formula) : Type 0 where
  pub odd : f.shape.kind ≡ Odd
  pub low : f.lo ≤ℤ pos 0
  pub high : pos (unit s) ≤ℤ f.hi

-- the sheet is accepted, and its formula n is for sine and cosine
abbrev pub HasSine : ℕ → List ℕ → ℕ → Type 0
HasSine s bytes n = HasFormula s bytes n × ForSine s (formula_given (formula_read s bytes n))

-- ---- an answer, its word negated where the sign is set; a refusal stays as it is
abbrev pub signed_answer : Bool → Worked → Worked
signed_answer sign w = worked (with_sign sign w.word) w.steps w.exact

abbrev pub signed_by : Bool → Evaluation → Evaluation
signed_by sign (Ok w) = Ok (signed_answer sign w)
signed_by sign (Err r) = Err r

abbrev pub negated : Evaluation → Evaluation
negated e = signed_by true e

-- negated in quarters 2 and 3
abbrev pub signed_in : ℕ → Evaluation → Evaluation
signed_in quarter e = signed_by (nat_lt 1 quarter) e

-- ---- what the board answers at the argument, or its negation; rounded where the argument is
abbrev pub sine_by : ℕ → Formula → ℕ → Evaluation → Evaluation
sine_by s f quarter e = guard (sine_fault s f) refused (signed_in quarter e)

abbrev pub plain_in : ℕ → List ℕ → ℕ → ℕ → ℕ → Evaluation
plain_in s bytes n quarter f = with_mark (exact_in s quarter f) (evaluated s bytes n (argument_in s quarter f))

abbrev pub sine_in : ℕ → List ℕ → ℕ → ℕ → ℕ → Evaluation
sine_in s bytes n quarter f = when_given (formula_read s bytes n) (sine_by s (formula_given (formula_read s bytes n)) quarter (plain_in s bytes n quarter f))

abbrev pub sine_of : ℕ → List ℕ → ℕ → ℕ → Evaluation
sine_of s bytes n a = sine_in s bytes n (quarter_of a) (rest_of a)

-- cosine is sine of the angle plus a quarter
abbrev pub cosine_of : ℕ → List ℕ → ℕ → ℕ → Evaluation
cosine_of s bytes n a = sine_of s bytes n (angle_sum a quarter_turn)

-- ---- worked examples. The refusals, 10 not among them
the_refusals : sine_refusals ≡ 15 ∷ 11 ∷ 9 ∷ 1 ∷ 2 ∷ 3 ∷ 4 ∷ 5 ∷ 6 ∷ 14 ∷ 7 ∷ 8 ∷ []
the_refusals = refl

-- 15 by the kind; and by the interval, at both ends of 0 to one, at 24 places and at 16 and 28
by_kind :
    (odd_fault Polynomial ≡ 15)
    × (odd_fault Rational ≡ 15)
    × (odd_fault Fraction ≡ 15)
    × (odd_fault Root ≡ 15)
    × (odd_fault Odd ≡ 0)
    × (odd_fault Even ≡ 15)
    × (odd_fault NoFormula ≡ 15)
by_kind = (refl, refl, refl, refl, refl, refl, refl)

by_interval :
    (span_fault 24 (pos 0) (pos 16777216) ≡ 0)
    × (span_fault 24 (pos 1) (pos 16777216) ≡ 15)
    × (span_fault 24 (pos 0) (pos 16777215) ≡ 15)
    × (span_fault 24 (negsuc 0) (pos 16777217) ≡ 0)
unfolding span_fault
by_interval = (refl, refl, refl, refl)

by_places : (span_fault 16 (pos 0) (pos 65536) ≡ 0) × (span_fault 16 (pos 0) (pos 65535) ≡ 15) × (span_fault 28 (pos 0) (pos 268435456) ≡ 0) × (span_fault 28 (pos 0) (pos 268435455) ≡ 15)
unfolding span_fault
by_places = (refl, refl, refl, refl)

-- the sign in each quarter, of the word alone, and the mark as it is; a refusal has none
signs :
    (signed_in 0 (answered (pos 3) 1 true) ≡ answered (pos 3) 1 true)
    × (signed_in 1 (answered (pos 3) 1 true) ≡ answered (pos 3) 1 true)
    × (signed_in 2 (answered (pos 3) 1 true) ≡ answered (negsuc 2) 1 true)
    × (signed_in 3 (answered (pos 3) 1 false) ≡ answered (negsuc 2) 1 false)
    × (signed_in 3 (refused 11) ≡ refused 11)
signs = (refl, refl, refl, refl, refl)

-- the answer, or 15 at place 0: on 0 to 16777216, on an interval from one step above 0, and of the kind even
abbrev over : Kind → ℤ → Formula
over kind lo = formula 5 (shape kind 1 0 0) lo (pos 16777216) []

answer_or_fifteen :
    (sine_by 24 (over Odd (pos 0)) 0 (answered (pos 3) 0 true) ≡ answered (pos 3) 0 true)
    × (sine_by 24 (over Odd (pos 1)) 0 (answered (pos 3) 0 true) ≡ Err (refusal 0 15))
    × (sine_by 24 (over Even (pos 0)) 2 (answered (pos 3) 0 true) ≡ Err (refusal 0 15))
unfolding span_fault
answer_or_fifteen = (refl, refl, refl)
