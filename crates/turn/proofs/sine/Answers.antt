-- `turn::sine` meets its contract: the sine by the record that stands at the place, or the place's refusal.
use Rattle.whole.proofs.Basics.{◌≡◌, ◌∙◌, refl, sym, List, ℕ}
use Rattle.std.proofs.lemmas.Result.{err_from_is_err_and}
use Rattle.formula.specs.declared.Formula.{Formula}
use Rattle.sheet.specs.Reader.{formula_at, formula_read, formula_given, FormulaStands, Reading}
use Rattle.sheet.proofs.Places.{place_standing}
use Rattle.answering.specs.Answering.{with_mark, answer_at, Evaluation}
use Rattle.board.specs.Board.{when_given}
use Rattle.board.proofs.ReadingLaws.{when_at, when_refused}
use Rattle.turn.specs.Angles.{quarter_of, argument_of, exact_argument}
use Rattle.turn.specs.Sine.{sine_by, sine_of}
use Rattle.turn.proofs.sine.Goals as goal
use Rattle.turn.proofs.sine.Goals.{In_ok-place}
use Rattle.std.specs.Prelude.{Err, Ok}

-- what a formula answers at the angle's argument, and the sine by it
module _ (s angle : ℕ) where
  -- the sine by a formula whose answer at the argument is e
  abbrev signed_from : Formula → Evaluation → Evaluation
  signed_from f e = sine_by s f (quarter_of angle) (with_mark (exact_argument s angle) e)

  abbrev own : Formula → Evaluation
  own f = answer_at s f (argument_of s angle)

  abbrev sine_from : Formula → Evaluation
  sine_from f = signed_from f (own f)

  -- where the formula is given, the board's answer is the formula's own
  as_board : (bytes : List ℕ) (n : ℕ) → when_given (formula_read s bytes n) (sine_from (formula_given (formula_read s bytes n))) ≡ sine_of s bytes n angle
  as_board bytes n = by (formula_read s bytes n)
    where
      by : (a : Reading) → when_given a (sine_from (formula_given a)) ≡ when_given a (signed_from (formula_given a) (when_given a (own (formula_given a))))
      by (Ok f) = refl
      by (Err q) = refl

-- what stands at the place that was answered
standing : (c : In_ok-place) → FormulaStands c.args.places c.args.s.now c.in_ok-place.place
standing c = place_standing _ _ _ _ (sym c.in_ok-place.ensures)

pub returns-in_err-place : goal.returns-in_err-place
returns-in_err-place c =
    let a = c.args in
    let p = err_from_is_err_and c.from_residual.result c.from_residual.ensures.1 in
    rw (p.1, p.2) (when_refused a.places a.s.now a.number (sine_from a.places a.angle) _ (sym c.in_err-place.ensures) ∙ as_board a.places a.angle a.s.now a.number)

pub record_at-requires : goal.record_at-requires
record_at-requires c = (standing (goal.at.record_at-requires c).In_ok-place).reach

pub sine_of-requires : goal.sine_of-requires
sine_of-requires c = let t = standing (goal.at.sine_of-requires c).In_ok-place in (t.scale, rw c.record_at.ensures t.here)

pub returns : goal.returns
returns c =
    let a = c.args in
    let here : c.sine_of.result ≡ sine_from a.places a.angle (formula_at a.s.now c.in_ok-place.place) = rw c.record_at.ensures at c.sine_of.ensures in
    here ∙ when_at a.places a.s.now a.number (sine_from a.places a.angle) _ (sym c.in_ok-place.ensures) ∙ as_board a.places a.angle a.s.now a.number
