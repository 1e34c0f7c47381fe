-- `reader::read_formula`: a formula record stands at the place that was answered.
use Rattle.whole.proofs.Basics.{sym}
use Rattle.sheet.proofs.Places.{place_standing}
use Rattle.sheet.proofs.reader.read_formula.Goals as goal

pub record_at-requires : goal.record_at-requires
record_at-requires c = (place_standing _ _ _ _ (sym c.in_ok-place.ensures)).reach

pub formula_in-requires : goal.formula_in-requires
formula_in-requires c = rw c.record_at.ensures (place_standing _ _ _ _ (sym c.in_ok-place.ensures)).here.one
