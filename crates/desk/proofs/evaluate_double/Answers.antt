-- `desk::evaluate_double` meets its contract: the answer of the record that stands at the place, shown as a double, or the place's refusal.
use Rattle.whole.proofs.Basics.{◌≡◌, ◌∙◌, refl, sym, subst}
use Rattle.std.proofs.lemmas.Result.{err_from_is_err_and}
use Rattle.formula.specs.declared.Formula.{Formula}
use Rattle.sheet.specs.Reader.{formula_at, FormulaStands}
use Rattle.sheet.proofs.Places.{place_standing}
use Rattle.answering.specs.Answering.{Evaluation}
use Rattle.board.proofs.ReadingLaws.{when_at, when_refused}
use Rattle.desk.specs.Desk.{taken_at, evaluated_double, ShownAs}
use Rattle.desk.proofs.evaluate_double.Goals as goal
use Rattle.desk.proofs.evaluate_double.Goals.{In_ok-place}
use Rattle.std.specs.Prelude.{Err, Ok}

-- the place that was answered: what stands there, and what it is evaluated to
module _ (c : In_ok-place) where
  standing : FormulaStands c.args.places c.args.s.now c.in_ok-place.place
  standing = place_standing _ _ _ _ (sym c.in_ok-place.ensures)

  evaluated_at : taken_at c.args.places (formula_at c.args.s.now c.in_ok-place.place) c.args.x ≡ evaluated_double c.args.places c.args.s.now c.args.number c.args.x
  evaluated_at = when_at c.args.places c.args.s.now c.args.number (λ (f : Formula). taken_at c.args.places f c.args.x) _ (sym c.in_ok-place.ensures)

pub returns-in_err-place : goal.returns-in_err-place
returns-in_err-place c =
    let a = c.args in
    let p = err_from_is_err_and c.from_residual.result c.from_residual.ensures.1 in
    rw (p.1, p.2)
    (subst (λ (e : Evaluation). ShownAs a.places e (Err c.in_err-place.field-0.0)) (when_refused a.places a.s.now a.number (λ (f : Formula). taken_at a.places f a.x) _ (sym c.in_err-place.ensures)) refl)

pub record_at-requires : goal.record_at-requires
record_at-requires c = (standing (goal.at.record_at-requires c).In_ok-place).reach

pub taken_of-requires : goal.taken_of-requires
taken_of-requires c = let t = standing (goal.at.taken_of-requires c).In_ok-place in (t.scale, rw c.record_at.ensures t.here)

pub returns-in_err-answer : goal.returns-in_err-answer
returns-in_err-answer c =
    let a = c.args in
    let d = (goal.at.returns-in_err-answer c).In_ok-place in
    let p = err_from_is_err_and c.from_residual-in_err-answer.result c.from_residual-in_err-answer.ensures.1 in
    rw (p.1, p.2) (subst (λ (e : Evaluation). ShownAs a.places e (Err c.in_err-answer.field-0.0)) (rw c.record_at.ensures at c.in_err-answer.ensures ∙ evaluated_at d) refl)

pub shown-requires : goal.shown-requires
shown-requires c = (standing (goal.at.shown-requires c).In_ok-place).scale

pub returns : goal.returns
returns c =
    let a = c.args in
    let d = (goal.at.returns c).In_ok-place in
    subst (λ (e : Evaluation). ShownAs a.places e (Ok c.shown.result)) (rw c.record_at.ensures at c.in_ok-answer.ensures ∙ evaluated_at d) c.shown.ensures
