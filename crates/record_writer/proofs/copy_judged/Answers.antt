-- `record_writer::copy_judged` meets its contract: a fault, too little room, and the bytes copied.
use Rattle.whole.proofs.Basics.{◌∙◌, refl, lt-ltb, le-ltb}
use Rattle.std.proofs.lemmas.Result.{err_from_is_err_and}
use Rattle.stored.proofs.StoreLaws.{sets_front}
use Rattle.record_writer.specs.RecordWriter.{room_writing, judged_writing}
use Rattle.record_writer.proofs.RecordWriting.{refuses, passes}
use Rattle.record_writer.proofs.copy_judged.Goals as goal

pub returns-in_err-formula_fault-clause-result : goal.returns-in_err-formula_fault-clause-result
unfolding judged_writing
returns-in_err-formula_fault-clause-result c =
    let p = err_from_is_err_and c.from_residual.result c.from_residual.ensures.1 in
    rw (p.1, p.2) (refuses _ _ c.in_err-formula_fault.ensures)

pub returns-then-out-bytes-clause-result : goal.returns-then-out-bytes-clause-result
unfolding judged_writing room_writing
returns-then-out-bytes-clause-result c = rw c.from.ensures (passes c.in_ok-formula_fault.ensures (rw (lt-ltb _ _ c.if-out-bytes.true) refl))

pub returns-clause-result : goal.returns-clause-result
unfolding judged_writing room_writing
returns-clause-result c = passes c.in_ok-formula_fault.ensures (rw (le-ltb _ _ c.if-out-bytes.false) refl)

pub returns-clause-buffer : goal.returns-clause-buffer
returns-clause-buffer c = c.put_bytes.ensures ∙ sets_front c.args.out.now c.args.bytes.now c.if-out-bytes.false
