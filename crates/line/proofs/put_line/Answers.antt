-- Number, kind name and interval one behind the other, each by the record's own field.
use Rattle.whole.proofs.Basics.{w32, SFits, to_z-of_z}
use Rattle.text.proofs.TextLaws.{behind}
use Rattle.line.proofs.LineLaws.{parts}
use Rattle.line.proofs.put_line.Goals as goal

pub returns-clause-put : goal.returns-clause-put
returns-clause-put c =
    let number = rw c.number.ensures at c.put_decimal.ensures.put in
    let kind = rw (c.row_of.ensures, c.code.ensures) at c.put_kind.ensures.put in
    let f : SFits w32 c.lo.result = record { sfits = c.lo.type_inv } in
    let g : SFits w32 c.hi.result = record { sfits = c.hi.type_inv } in
    let ends = rw (to_z-of_z f, to_z-of_z g, c.lo.ensures, c.hi.ensures) at c.put_interval.ensures.put in
    rw (parts c.args.b.now) (behind number (behind c.put_text.ensures.put (behind kind ends)))
