-- `walk_run` meets its contract: the walk from behind the start's row.
use Rattle.whole.proofs.Basics.{◌∙◌, ap, arith}
use Rattle.table.specs.Codes.{the_start}
use Rattle.table.specs.declared.Row.{Row}
use Rattle.sheet_writer.proofs.SheetLaws.{start_head}
use Rattle.sheet_writer.proofs.walk_run.Goals as goal

pub walk_over-requires : goal.walk_over-requires
walk_over-requires c =
    let e = ap (λ (r : Row). r.head) (c.row_of.ensures ∙ the_start) in
    record { near = omega (arith, e, start_head); scale = λ z. c.requires }

pub returns : goal.returns
returns c = rw (c.row_of.ensures ∙ the_start, c.none.ensures) at c.walk_over.ensures
