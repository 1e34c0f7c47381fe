-- Promise: what is answered by any sheet, for any number and argument, and is marked exact, is the formula's exact value at the argument: of a polynomial, odd,
-- even or rational formula, of a fraction over whole numbers, and of a root, whose square is the scaled argument. No refusal is exact, and an answer is the
-- formula's own.
use Rattle.whole.proofs.Basics.{◌≡◌, true, List, ℕ, ℤ}
use mathlib.Core.Bool.{false≢true}
use Rattle.word.specs.Words.{Scale}
use Rattle.formula.specs.declared.Formula.{Formula}
use Rattle.formula.specs.Exact.{ValueOf}
use Rattle.formula.proofs.ExactAnswer.{formula_exact}
use Rattle.layout.specs.Fields.{words_in}
use Rattle.sheet.specs.Reader.{Fit, formula_read, formula_given}
use Rattle.sheet.proofs.FormulasGiven.{given_scale, given_fits}
use Rattle.answering.specs.Answering.{evaluation_word, evaluation_exact, answer_at, Evaluation}
use Rattle.answering.proofs.IntervalLaws.{at_argument}
use Rattle.board.specs.Board.{evaluated}
use Rattle.board.proofs.ReadingLaws.{given_or_refused}

-- what an answer says of a formula's value at x, if it is exact
abbrev pub ExactIs : ℕ → Formula → ℤ → Evaluation → Type 0
ExactIs s f x e = evaluation_exact e ≡ true → ValueOf s f.shape (words_in f) x (evaluation_word e)

pub argument_exact_lem : (s : ℕ) (f : Formula) (x : ℤ) → Scale s → Fit s f → ExactIs s f x (answer_at s f x)
argument_exact_lem s f x scale fits = at_argument (ExactIs s f x) s f x scale fits (λ t. absurd (false≢true t)) (formula_exact s f.shape (words_in f) x)

pub sheet_exact : (s : ℕ) (bytes : List ℕ) (n : ℕ) (x : ℤ) → ExactIs s (formula_given (formula_read s bytes n)) x (evaluated s bytes n x)
sheet_exact s bytes n x =
    let f = (formula_given (formula_read s bytes n)) in
    given_or_refused (ExactIs s f x) s bytes n (answer_at s f x) (λ r t. absurd (false≢true t)) (λ g. argument_exact_lem s f x (given_scale s bytes n g) (given_fits s bytes n g).0)
