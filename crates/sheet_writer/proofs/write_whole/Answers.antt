-- `write_whole` meets its contract: the sheet's bytes stand at the front of the buffer.
use Rattle.whole.proofs.Basics.{◌∙◌, arith}
use Rattle.stored.proofs.StoreLaws.{sets_front}
use Rattle.sheet_writer.specs.SheetWriter.{sheet_bytes}
use Rattle.sheet_writer.proofs.SheetLaws.{length_sheet}
use Rattle.sheet_writer.proofs.write_whole.Goals as goal

pub returns-clause-buffer : goal.returns-clause-buffer
returns-clause-buffer c =
    let l = length_sheet c.args.count c.args.run.now in
    let room = rw c.added.ensures.0 at c.if-out-n.false in
    rw (c.added.ensures.0, ← l) (c.put_sheet.ensures ∙ sets_front c.args.out.now (sheet_bytes c.args.count c.args.run.now) (omega (arith, l, room)))
