-- The rows of 'Checked by hand' that are marked P, as one table, at 24 binary places. proofs/CheckedByHand.antt has the one statement.
use Rattle.std.specs.Prelude.{List, [], ◌∷◌, map, ℕ, ◌*◌, ℤ, pos, neg_ℤ}
use Rattle.admission.specs.Admission.{admission_number}
use Rattle.formula.specs.Formula.{answer_of, admission_of}
use Rattle.formula.specs.declared.Kind.TheVariants.{Polynomial, Rational, Fraction, Root}
use Rattle.formula.specs.declared.Shape.{Shape}

-- a formula on an interval: the arguments of a row and what the paper gives at each, and the number that admission gives, 0 for accepted
pub record Row : Type 0 where
  pub shape : Shape
  pub words : List ℤ
  pub lo : ℤ
  pub hi : ℤ
  pub arguments : List ℤ
  pub answers : List ℤ
  pub refusal : ℕ

-- what the definitions give for a row, and what the paper says
pub record Found : Type 0 where
  pub answered : List ℤ
  pub refused : ℕ

abbrev pub found : Row → Found
found r = record { answered = map (answer_of 24 r.shape r.words) r.arguments; refused = admission_number (admission_of 24 r.shape r.lo r.hi r.words) }

abbrev pub paper : Row → Found
paper r = record { answered = r.answers; refused = r.refusal }

-- numbers in ones, and below 0
abbrev ones : ℕ → ℤ
ones k = pos (k * 16777216)

abbrev minus : ℕ → ℤ
minus k = neg_ℤ (pos k)

abbrev polynomial : ℕ → Shape
polynomial p = record { kind = Polynomial; p = p; q = 0; mode = 0 }

abbrev rational : ℕ → ℕ → Shape
rational p q = record { kind = Rational; p = p; q = q; mode = 0 }

abbrev fraction : ℕ → ℕ → Shape
fraction mode depth = record { kind = Fraction; p = depth; q = 0; mode = mode }

abbrev root : Shape
root = record { kind = Root; p = 0; q = 0; mode = 0 }

-- 12 + 6x + x² over 12 - 6x + x²
abbrev exponential : List ℤ
exponential = ones 12 ∷ ones 6 ∷ ones 1 ∷ ones 12 ∷ minus 100663296 ∷ ones 1 ∷ []

abbrev pub table : List Row
table =
    record { shape = polynomial 2; words = pos 0 ∷ pos 1 ∷ []; lo = minus 33554432; hi = ones 2; arguments = pos 8388608 ∷ minus 8388608 ∷ minus 25165824 ∷ []; answers = pos 1 ∷ minus 1 ∷ minus 2 ∷ []; refusal = 0 }
    ∷ record { shape = polynomial 3; words = ones 1 ∷ ones 1 ∷ pos 8388608 ∷ []; lo = minus 33554432; hi = ones 2; arguments = pos 8388608 ∷ []; answers = pos 27262976 ∷ []; refusal = 0 }
    ∷ record { shape = rational 3 3; words = exponential; lo = minus 16777216; hi = ones 1; arguments = pos 0 ∷ ones 1 ∷ minus 16777216 ∷ []; answers = pos 16777216 ∷ pos 45538158 ∷ pos 6181080 ∷ []; refusal = 0 }
    ∷ record { shape = rational 3 3; words = exponential; lo = minus 33554432; hi = ones 2; arguments = []; answers = []; refusal = 8 }
    ∷ record { shape = fraction 2 2; words = pos 0 ∷ ones 1 ∷ ones 1 ∷ minus 16777216 ∷ ones 3 ∷ []; lo = minus 16777216; hi = ones 1; arguments = pos 8388608 ∷ []; answers = pos 9151209 ∷ []; refusal = 0 }
    ∷ record { shape = root; words = []; lo = pos 0; hi = ones 2; arguments = pos 0 ∷ pos 1 ∷ pos 33554432 ∷ []; answers = pos 0 ∷ pos 4096 ∷ pos 23726566 ∷ []; refusal = 0 }
    ∷ record { shape = polynomial 2; words = pos 2147483647 ∷ pos 1 ∷ []; lo = pos 0; hi = pos 1; arguments = []; answers = []; refusal = 7 }
    ∷ record { shape = polynomial 2; words = pos 2147483647 ∷ pos 1 ∷ []; lo = pos 0; hi = pos 0; arguments = []; answers = []; refusal = 0 }
    ∷ []
