-- `added` meets its contract: the heads of the start's and the end's rows.
use Rattle.whole.proofs.Basics.{◌∙◌, refl, arith}
use Rattle.table.specs.Codes.{the_start, the_end}
use Rattle.sheet_writer.proofs.SheetLaws.{start_head, end_head}
use Rattle.sheet_writer.proofs.added.Goals as goal

pub overflow_add-result : goal.overflow_add-result
overflow_add-result c = rw (c.row_of.ensures ∙ the_start, c.row_of-2.ensures ∙ the_end) (omega (arith, start_head, end_head))

pub returns : goal.returns
returns c = rw (c.row_of.ensures ∙ the_start, c.row_of-2.ensures ∙ the_end) (refl, omega (arith, start_head, end_head))
