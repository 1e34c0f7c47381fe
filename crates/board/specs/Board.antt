-- Evaluation takes a whole sheet, a number and an argument: the reader's refusals, then 10. The binary places are s.
use Rattle.std.specs.Prelude.{◌≡◌, refl, List, ◌∷◌, ℕ, ℤ, Err, Ok}
use Rattle.refusal.specs.Guard.{refusal}
use Rattle.sheet.specs.Reader.{reader_refusals, formula_read, Reading, formula_given}
use Rattle.answering.specs.Answering.{refused, answer_at, Evaluation}

-- the refusals that evaluation can give: the reader's and 10
abbrev pub evaluation_refusals : List ℕ
evaluation_refusals = 10 ∷ reader_refusals

-- the reader's refusals come first
abbrev pub when_given : Reading → Evaluation → Evaluation
when_given (Ok f) e = e
when_given (Err r) e = Err r

abbrev pub evaluated : ℕ → List ℕ → ℕ → ℤ → Evaluation
evaluated s bytes n x = when_given (formula_read s bytes n) (answer_at s (formula_given (formula_read s bytes n)) x)

-- ---- worked example: the reader's refusal comes before 10
reader_first : when_given (Err (refusal 0 11)) (refused 10) ≡ refused 11
reader_first = refl
