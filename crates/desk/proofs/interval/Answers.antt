-- `desk::interval` meets its contract: the ends of the record that stands at the place, or the place's refusal.
use Rattle.whole.proofs.Basics.{sym}
use Rattle.std.proofs.lemmas.Result.{err_from_is_err_and}
use Rattle.sheet.specs.Reader.{FormulaStands}
use Rattle.sheet.proofs.Places.{place_standing}
use Rattle.desk.proofs.ReadingLaws.{ends_at, ends_refused}
use Rattle.desk.proofs.interval.Goals as goal
use Rattle.desk.proofs.interval.Goals.{In_ok-place}

-- what stands at the place that was answered
standing : (c : In_ok-place) → FormulaStands c.args.places c.args.s.now c.in_ok-place.place
standing c = place_standing _ _ _ _ (sym c.in_ok-place.ensures)

pub returns-in_err-place : goal.returns-in_err-place
returns-in_err-place c =
    let a = c.args in
    let p = err_from_is_err_and c.from_residual.result c.from_residual.ensures.1 in
    rw (p.1, p.2) (ends_refused a.places a.s.now a.number _ (sym c.in_err-place.ensures))

pub record_at-requires : goal.record_at-requires
record_at-requires c = (standing (goal.at.record_at-requires c).In_ok-place).reach

pub ends_of-requires : goal.ends_of-requires
ends_of-requires c = let t = standing (goal.at.ends_of-requires c).In_ok-place in (t.scale, rw c.record_at.ensures t.here)

pub returns : goal.returns
returns c =
    let a = c.args in
    ends_at a.places a.s.now a.number _ _ (sym c.in_ok-place.ensures) (rw c.record_at.ensures at c.ends_of.ensures)
