-- Promise: which refusals evaluation can give, the reader's and 10; where there is none of them, there is an answer.
use Rattle.whole.proofs.Basics.{◌≡◌, refl, Bool, true, false, cond, ◌⊎◌, inl, inr, List, ℕ, ℤ, lt_z, arith}
use Rattle.formula.specs.declared.Formula.{Formula}
use Rattle.formula.specs.declared.Worked.{Worked}
use Rattle.formula.specs.Formula.{worked_of}
use Rattle.layout.specs.Fields.{words_in}
use Rattle.faults.specs.Refusals.{OneOf}
use Rattle.sheet.specs.Reader.{reader_refusals, formula_read, formula_given, Reading, Given}
use Rattle.sheet.proofs.WhichRefusals.{read_or_eleven}
use Rattle.answering.specs.Answering.{refused, answer_at, Evaluation}
use Rattle.board.specs.Board.{evaluation_refusals, when_given, evaluated}
use Rattle.refusal.specs.Guard.{refused_number}
use Rattle.std.specs.Prelude.{Err, Ok}

-- an answer, or a refusal of the set
abbrev pub AnswerOr : List ℕ → Evaluation → Type 0
AnswerOr l e = ((w : Worked) × (e ≡ Ok w)) ⊎ OneOf l (refused_number e)

-- the reader's refusal comes before what the formula gives
pub given_or : (l : List ℕ) (a : Reading) (e : Evaluation) → Given a ⊎ OneOf reader_refusals (refused_number a) → ((n : ℕ) → OneOf reader_refusals n → OneOf l n) → AnswerOr l e → AnswerOr l (when_given a e)
given_or l (Ok f) e h wide k = k
given_or l (Err r) e (inl q) wide k = absurd (let z : ◌≡◌ {A = ℕ} 0 1 = cc q in omega arith)
given_or l (Err r) e (inr h) wide k = inr (wide r.number h)

pub at_argument : (l : List ℕ) → OneOf l 10 → (s : ℕ) (f : Formula) (x : ℤ) → AnswerOr l (answer_at s f x)
unfolding answer_at
at_argument l ten s f x = at (lt_z x f.lo) (lt_z f.hi x)
  where
    at : (b c : Bool) → AnswerOr l (cond b (refused 10) (cond c (refused 10) (Ok (worked_of s f.shape (words_in f) x))))
    at true c = inr ten
    at false true = inr ten
    at false false = inl (_, refl)

pub evaluation_refusals_lem : (s : ℕ) (bytes : List ℕ) (n : ℕ) (x : ℤ) → AnswerOr evaluation_refusals (evaluated s bytes n x)
evaluation_refusals_lem s bytes n x = given_or evaluation_refusals (formula_read s bytes n) _ (read_or_eleven s bytes n) (λ k h. inr h) (at_argument evaluation_refusals (inl refl) s (formula_given (formula_read s bytes n)) x)
