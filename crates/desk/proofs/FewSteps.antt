-- Promise: through the door, too, at most 7 steps of Heron's rule are told, by any sheet, for any number and double.
use Rattle.whole.proofs.Basics.{List, ℕ, ◌≤◌, arith}
use lib.Ieee.{Float}
use Rattle.word.specs.Words.{Scale}
use Rattle.formula.specs.declared.Formula.{Formula}
use Rattle.formula.proofs.FewSteps.{formula_steps}
use Rattle.door.specs.Taken.{taken_of, Taken}
use Rattle.layout.specs.Fields.{words_in}
use Rattle.sheet.specs.Reader.{Fit, formula_read, formula_given}
use Rattle.sheet.proofs.FormulasGiven.{given_scale, given_fits}
use Rattle.answering.specs.Answering.{evaluation_steps, answer_at}
use Rattle.answering.proofs.IntervalLaws.{at_argument}
use Rattle.answering.proofs.MarkLaws.{marked_steps}
use Rattle.board.proofs.ReadingLaws.{given_or_refused}
use Rattle.desk.specs.Desk.{shown_steps, taken_by, taken_at, evaluated_double, ShownAs, Showing}
use Rattle.desk.proofs.SameNumbers.{shown_steps_lem}
use Rattle.std.specs.Prelude.{Err, Ok}

taken_steps : (s : ℕ) (f : Formula) (t : Taken) → Scale s → Fit s f → evaluation_steps (taken_by s f t) ≤ 7
taken_steps s f (Ok a) scale fits =
    rw (marked_steps a.exact (answer_at s f a.word)) (at_argument (λ e. evaluation_steps e ≤ 7) s f a.word scale fits (omega arith) (formula_steps s f.shape (words_in f) a.word))
taken_steps s f (Err r) scale fits = omega arith

pub door_steps : (s : ℕ) (bytes : List ℕ) (n : ℕ) (d : Float) (y : Showing) → ShownAs s (evaluated_double s bytes n d) y → shown_steps y ≤ 7
door_steps s bytes n d y p =
    let f = (formula_given (formula_read s bytes n)) in
    let few = given_or_refused (λ e. evaluation_steps e ≤ 7) s bytes n (taken_at s f d) (λ r. omega arith) (λ g. taken_steps s f (taken_of s d) (given_scale s bytes n g) (given_fits s bytes n g).0) in
    omega (arith, shown_steps_lem s (evaluated_double s bytes n d) y p, few)
