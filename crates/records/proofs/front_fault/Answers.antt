-- `records::front_fault` meets its contract: the links of its chain, the first of them in two parts.
use Rattle.whole.proofs.Basics.{◌≡◌, rules, lt-ltb, le-ltb}
use Rattle.std.proofs.lemmas.Result.{err_from_is_err_and}
use Rattle.stored.proofs.Back.{back}
use Rattle.refusal.specs.Guard.{number_of}
use Rattle.faults.specs.Faults.{length_fault}
use Rattle.faults.proofs.Chain.{err_stops, ok_passes}
use Rattle.records.specs.Records.{front_fault}
use Rattle.records.proofs.front_fault.Goals as goal

pub returns-then-b-row : goal.returns-then-b-row
unfolding front_fault length_fault
returns-then-b-row c = simp (lt-ltb _ _ c.if-b-row.true)

pub returns-in_err-size_fault : goal.returns-in_err-size_fault
unfolding front_fault length_fault
returns-in_err-size_fault c =
    let p = err_from_is_err_and c.from_residual.result c.from_residual.ensures.1 in
    let long : number_of c.in_err-size_fault.field-0.0 ≡ length_fault c.args.row c.args.b.now = rw (le-ltb _ _ c.if-b-row.false) (rw c.shape_of-shape.ensures at c.in_err-size_fault.ensures) in
    rw (p.1, p.2) (err_stops _ _ long)

pub returns-in_err-order_fault : goal.returns-in_err-order_fault
unfolding front_fault length_fault
returns-in_err-order_fault c =
    let p = err_from_is_err_and c.from_residual-in_err-order_fault.result c.from_residual-in_err-order_fault.ensures.1 in
    let exact : 0 ≡ length_fault c.args.row c.args.b.now = rw (le-ltb _ _ c.if-b-row.false) (rw c.shape_of-shape.ensures at c.in_ok-size_fault.ensures) in
    rw (p.1, p.2) (ok_passes exact (err_stops _ _ (rw c.number.ensures at c.in_err-order_fault.ensures)))

pub returns : goal.returns
unfolding front_fault length_fault
returns c =
    let exact : 0 ≡ length_fault c.args.row c.args.b.now = rw (le-ltb _ _ c.if-b-row.false) (rw c.shape_of-shape.ensures at c.in_ok-size_fault.ensures) in
    ok_passes exact
    (ok_passes (rw c.number.ensures at c.in_ok-order_fault.ensures)
    (rw (c.shape_of-shape.ensures, back (search rules) c.lo.ensures, back (search rules) c.hi.ensures) at c.own_fault.ensures))
