-- `faults::framing::start_fault` meets its contract: the length of a row without counts, then the count's range.
use Rattle.std.proofs.lemmas.Result.{err_from_is_err_and}
use Rattle.table.specs.Table.{rows, first_row, row_of}
use Rattle.table.specs.Codes.{the_start}
use Rattle.table.proofs.Rule.{ruled}
use Rattle.faults.specs.Faults.{start_fault}
use Rattle.faults.proofs.Chain.{err_stops, ok_passes}
use Rattle.faults.proofs.framing.start_fault.Goals as goal

pub bare_fault-requires : goal.bare_fault-requires
unfolding row_of first_row rows
bare_fault-requires c = rw c.row_of-row.ensures ((ruled 0x0001).bare tt)

pub returns-in_err-bare_fault : goal.returns-in_err-bare_fault
returns-in_err-bare_fault c =
    let p = err_from_is_err_and c.from_residual.result c.from_residual.ensures.1 in
    rw (p.1, p.2) (err_stops _ _ (rw (c.row_of-row.ensures, the_start) at (c.in_err-bare_fault.ensures)))

pub returns : goal.returns
unfolding start_fault
returns c = ok_passes (rw (c.row_of-row.ensures, the_start) at (c.in_ok-bare_fault.ensures)) (rw (c.count.ensures, c.row_of-row.ensures, the_start) at c.range_fault.ensures)
