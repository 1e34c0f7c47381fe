-- `faults::parts::interval_fault` meets its contract: the high end needs no test of its own.
use Rattle.whole.proofs.Basics.{◌≡◌, ◌∙◌, sym, ap, Bool, cond, to_z-of_z}
use Rattle.std.proofs.lemmas.Result.{err_from_is_err_and}
use Rattle.faults.specs.Faults.{word_fault, interval_fault}
use Rattle.faults.proofs.Chain.{err_stops}
use Rattle.faults.proofs.Values.{ends_fault}
use Rattle.faults.proofs.parts.interval_fault.Goals as goal

pub returns-in_err-word_fault : goal.returns-in_err-word_fault
unfolding interval_fault
returns-in_err-word_fault c =
    let p = err_from_is_err_and c.from_residual.result c.from_residual.ensures.1 in
    rw (p.1, p.2) (err_stops _ _ (rw (to_z-of_z c.ranges.lo) at c.in_err-word_fault.ensures))

pub returns-then-hi-lo : goal.returns-then-hi-lo
returns-then-hi-lo c =
    let low : 0 ≡ word_fault c.args.lo = rw (to_z-of_z c.ranges.lo) at c.in_ok-word_fault.ensures in
    sym (ends_fault c.args.lo c.args.hi c.ranges.hi (sym low) ∙ ap (λ (t : Bool). cond t 6 0) (rw (to_z-of_z c.ranges.hi, to_z-of_z c.ranges.lo) at c.if-hi-lo.true))

pub returns : goal.returns
returns c =
    let low : 0 ≡ word_fault c.args.lo = rw (to_z-of_z c.ranges.lo) at c.in_ok-word_fault.ensures in
    sym (ends_fault c.args.lo c.args.hi c.ranges.hi (sym low) ∙ ap (λ (t : Bool). cond t 6 0) (rw (to_z-of_z c.ranges.hi, to_z-of_z c.ranges.lo) at c.if-hi-lo.false))
