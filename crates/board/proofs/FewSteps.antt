-- Promise: what is answered by any sheet, for any number and argument, tells at most 7 steps of Heron's rule, and so never above 8. Where the formula is no root,
-- and where the argument is 0, it tells none; and neither does a refusal.
use Rattle.whole.proofs.Basics.{◌≡◌, refl, List, ℕ, ◌≤◌, arith, ℤ, pos}
use Rattle.formula.specs.declared.Formula.{Formula}
use Rattle.formula.specs.declared.Kind.TheVariants.{Root}
use Rattle.formula.specs.Formula.{steps_by, Answerable}
use Rattle.formula.proofs.FewSteps.{other_kinds, formula_steps, none_at_zero}
use Rattle.layout.specs.Fields.{words_in}
use Rattle.sheet.specs.Reader.{formula_read, formula_given}
use Rattle.sheet.proofs.FormulasGiven.{given_scale, given_fits}
use Rattle.answering.specs.Answering.{evaluation_steps, answer_at}
use Rattle.answering.proofs.IntervalLaws.{at_argument}
use Rattle.board.specs.Board.{evaluated}
use Rattle.board.proofs.ReadingLaws.{given_or_refused}

module _ (s : ℕ) (bytes : List ℕ) (n : ℕ) where
  abbrev f : Formula
  f = (formula_given (formula_read s bytes n))

  -- a refusal tells no steps, and an answer its kind's own
  sheet_tells : (P : ℕ → Type 0) (x : ℤ) → P 0 → (Answerable s f.shape (words_in f) x → P (steps_by f.shape.kind s x)) → P (evaluation_steps (evaluated s bytes n x))
  sheet_tells P x none own =
      given_or_refused (λ e. P (evaluation_steps e)) s bytes n (answer_at s f x) (λ r. none)
      (λ g. at_argument (λ e. P (evaluation_steps e)) s f x (given_scale s bytes n g) (given_fits s bytes n g).0 none own)

  module _ (x : ℤ) where
    pub sheet_steps : evaluation_steps (evaluated s bytes n x) ≤ 7
    sheet_steps = sheet_tells (λ (k : ℕ). k ≤ 7) x (omega arith) (formula_steps s f.shape (words_in f) x)

    pub never_above_eight : evaluation_steps (evaluated s bytes n x) ≤ 8
    never_above_eight = omega (arith, sheet_steps)

    pub no_root_no_steps : (f.shape.kind ≡ Root → ⊥) → evaluation_steps (evaluated s bytes n x) ≡ 0
    no_root_no_steps h = sheet_tells (λ (k : ℕ). k ≡ 0) x refl (λ a. other_kinds f.shape.kind s x h)

  pub none_of_zero : evaluation_steps (evaluated s bytes n (pos 0)) ≡ 0
  none_of_zero = sheet_tells (λ (k : ℕ). k ≡ 0) (pos 0) refl (λ a. none_at_zero f.shape.kind s)
