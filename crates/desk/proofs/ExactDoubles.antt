-- Promise: what the door gives for a double and marks exact, by any sheet, for any number, is the formula's exact value at the double's own exact value: the
-- door's mark says that the word taken is that value (`taken_exact_lem`), and the board's that the answer is exact there (`argument_exact_lem`).
use Rattle.whole.proofs.Basics.{◌≡◌, ◌∙◌, refl, sym, ap, true, List, ℕ, ℤ}
use mathlib.Core.Bool.{false≢true}
use lib.Ieee.{Float}
use Rattle.word.specs.Words.{Scale}
use Rattle.formula.specs.declared.Formula.{Formula}
use Rattle.formula.specs.Exact.{ValueOf}
use Rattle.door.specs.Exact.{Exactly}
use Rattle.door.specs.Taken.{taken_of, ValueIs, Taken, took}
use Rattle.door.proofs.ExactArgument.{taken_exact_lem}
use Rattle.layout.specs.Fields.{words_in}
use Rattle.sheet.specs.Reader.{Fit, formula_read, formula_given}
use Rattle.sheet.proofs.FormulasGiven.{given_scale, given_fits}
use Rattle.answering.specs.Answering.{evaluation_word, evaluation_exact, answer_at, Evaluation}
use Rattle.answering.proofs.MarkLaws.{marked_word, both_exact}
use Rattle.board.proofs.ReadingLaws.{given_or_refused}
use Rattle.board.proofs.ExactAnswers.{argument_exact_lem}
use Rattle.desk.specs.Desk.{shown_value, shown_exact, taken_by, taken_at, evaluated_double, ShownAs, Showing}
use Rattle.std.specs.Prelude.{Err, Ok}

-- z is the double's own value times 2^s, and w the formula's there
abbrev pub ExactAt : ℕ → Formula → Float → ℤ → Type 0
ExactAt s f d w = (z : ℤ) × ValueIs s d z × ValueOf s f.shape (words_in f) z w

taken_value : (s : ℕ) (f : Formula) (d : Float) → Scale s → Fit s f → evaluation_exact (taken_at s f d) ≡ true → ExactAt s f d (evaluation_word (taken_at s f d))
taken_value s f d scale fits = at (taken_of s d) refl
  where
    at : (t : Taken) → taken_of s d ≡ t → evaluation_exact (taken_by s f t) ≡ true → ExactAt s f d (evaluation_word (taken_by s f t))
    at (Ok a) q h =
        let w = a.word in
        let b = both_exact a.exact (answer_at s f w) h in
        (w, taken_exact_lem s d w (q ∙ ap (took w) b.0), rw (marked_word a.exact (answer_at s f w)) (argument_exact_lem s f w scale fits b.1))
    at (Err r) q h = absurd (false≢true h)

module _ (s : ℕ) (bytes : List ℕ) (n : ℕ) where
  abbrev f : Formula
  f = (formula_given (formula_read s bytes n))

  pub double_exact : (d : Float) → evaluation_exact (evaluated_double s bytes n d) ≡ true → ExactAt s f d (evaluation_word (evaluated_double s bytes n d))
  double_exact d =
      given_or_refused (λ e. evaluation_exact e ≡ true → ExactAt s f d (evaluation_word e)) s bytes n (taken_at s f d) (λ r t. absurd (false≢true t))
      (λ g. taken_value s f d (given_scale s bytes n g) (given_fits s bytes n g).0)

  -- by the double that is given, which is exactly such a word
  pub door_exact : (d : Float) (y : Showing) → ShownAs s (evaluated_double s bytes n d) y → shown_exact y ≡ true → (w : ℤ) × Exactly s w (shown_value y) × ExactAt s f d w
  door_exact d y p t = at (evaluated_double s bytes n d) y p t (double_exact d)
    where
      at : (e : Evaluation) (y : Showing) → ShownAs s e y → shown_exact y ≡ true → (evaluation_exact e ≡ true → ExactAt s f d (evaluation_word e)) → (w : ℤ) × Exactly s w (shown_value y) × ExactAt s f d w
      at (Ok w) (Ok a) p t own = (w.word, p.0, own (sym p.2 ∙ t))
      at (Ok w) (Err r) p t own = absurd p
      at (Err q) (Ok a) p t own = absurd p
      at (Err q) (Err r) p t own = absurd (false≢true t)
