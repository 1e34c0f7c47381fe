-- `write_sheet` meets its contract: first the scale, then an empty run, then what the run's walk says.
use Rattle.whole.proofs.Basics.{◌≡◌, ◌∙◌, refl, sym, true, false, eqb, length}
use Rattle.std.proofs.lemmas.Result.{err_from_is_err_and}
use Rattle.faults.proofs.ScaleLaws.{good_scale}
use Rattle.record_writer.proofs.RecordWriting.{refuses, passes}
use Rattle.sheet_writer.specs.SheetWriter.{sheet_writing}
use Rattle.sheet_writer.proofs.write_sheet.Goals as goal

pub returns-in_err-scale_fault-clause-result : goal.returns-in_err-scale_fault-clause-result
unfolding sheet_writing
returns-in_err-scale_fault-clause-result c =
    let p = err_from_is_err_and c.from_residual.result c.from_residual.ensures.1 in
    rw (p.1, p.2) (refuses _ _ c.in_err-scale_fault.ensures)

pub returns-then-is_empty-clause-result : goal.returns-then-is_empty-clause-result
unfolding sheet_writing
returns-then-is_empty-clause-result c =
    let t : eqb (length c.args.run.now) 0 ≡ true = sym c.is_empty.ensures ∙ c.if-is_empty.true in
    rw c.from.ensures (passes c.in_ok-scale_fault.ensures (rw t refl))

pub walk_run-requires : goal.walk_run-requires
walk_run-requires c = good_scale _ (sym c.in_ok-scale_fault.ensures)

pub returns-in_err-whole-clause-result : goal.returns-in_err-whole-clause-result
unfolding sheet_writing
returns-in_err-whole-clause-result c =
    let t : eqb (length c.args.run.now) 0 ≡ false = sym c.is_empty.ensures ∙ c.if-is_empty.false in
    let p = err_from_is_err_and c.from_residual-in_err-whole.result c.from_residual-in_err-whole.ensures.1 in
    rw (p.1, p.2) (passes c.in_ok-scale_fault.ensures (rw (t, ← c.in_err-whole.ensures) refl))

pub returns-clause-result : goal.returns-clause-result
unfolding sheet_writing
returns-clause-result c =
    let t : eqb (length c.args.run.now) 0 ≡ false = sym c.is_empty.ensures ∙ c.if-is_empty.false in
    passes c.in_ok-scale_fault.ensures (rw (t, ← c.in_ok-whole.ensures) c.write_whole.ensures.result)
