-- `record_writer::put_by_kind` meets its contract: any other code is that of no formula.
use Rattle.whole.proofs.Basics.{◌≡◌, ap, arith}
use Rattle.table.specs.Table.{row_of}
use Rattle.records.specs.Records.{only_formula}
use Rattle.records.proofs.FormulaLaws.{no_formula_lem}
use Rattle.record_writer.proofs.put_by_kind.Goals as goal

never : goal.In_default → ⊥
never c =
    let three : only_formula (row_of c.args.code).class ≡ 3 = no_formula_lem c.args.code (λ z. omega arith) (λ z. omega arith) (λ z. omega arith) (λ z. omega arith) (λ z. omega arith) (λ z. omega arith) in
    omega (arith, three, ap only_formula c.requires.formula)

pub returns-in_default-clause-size : goal.returns-in_default-clause-size
returns-in_default-clause-size c = absurd (never c)

pub returns-in_default-clause-bytes : goal.returns-in_default-clause-bytes
returns-in_default-clause-bytes c = absurd (never c)
