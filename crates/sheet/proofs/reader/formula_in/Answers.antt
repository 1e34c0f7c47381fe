-- `reader::formula_in`: the row is that of the record's code, and the record is complete.
use Rattle.sheet.proofs.Words.{complete_record}
use Rattle.sheet.proofs.reader.formula_in.Goals as goal

pub formula_of-requires : goal.formula_of-requires
formula_of-requires c = rw (c.row_of.ensures, c.code.ensures) (complete_record _ c.requires)
