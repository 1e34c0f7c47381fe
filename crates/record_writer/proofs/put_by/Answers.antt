-- `record_writer::put_by` meets its contract: a count's fault, or the formula's record by its row.
use Rattle.whole.proofs.Basics.{◌∙◌, sym, ap, ℕ}
use Rattle.table.specs.Table.{row_of}
use Rattle.record_writer.proofs.PutBy.{no_size, none_put, row_ready, size_put, bytes_put}
use Rattle.record_writer.proofs.put_by.Goals as goal

pub returns-then-is_err-clause-size : goal.returns-then-is_err-clause-size
returns-then-is_err-clause-size g c =
    no_size c.args.f c.row_of-row.result c.plain_shape-shape.result c.count_fault.result (c.row_of-row.ensures ∙ ap row_of c.requires.code) c.plain_shape-shape.ensures c.count_fault.ensures (sym c.is_err.ensures.value ∙ c.if-is_err.true)

pub returns-then-is_err-clause-bytes : goal.returns-then-is_err-clause-bytes
returns-then-is_err-clause-bytes g c =
    none_put c.args.f c.row_of-row.result c.plain_shape-shape.result c.count_fault.result (c.row_of-row.ensures ∙ ap row_of c.requires.code) c.plain_shape-shape.ensures c.count_fault.ensures (sym c.is_err.ensures.value ∙ c.if-is_err.true) _

pub put_record-requires-clause-ready : goal.put_record-requires-clause-ready
put_record-requires-clause-ready g c =
    row_ready c.args.f c.row_of-row.result c.plain_shape-shape.result c.count_fault.result (c.row_of-row.ensures ∙ ap row_of c.requires.code) c.plain_shape-shape.ensures c.count_fault.ensures
    (ap (λ (n : ℕ). (row_of n).class) (sym c.requires.code) ∙ c.requires.formula)
    (sym c.is_err.ensures.value ∙ c.if-is_err.false)

pub returns-clause-size : goal.returns-clause-size
returns-clause-size g c =
    size_put c.args.f c.row_of-row.result c.plain_shape-shape.result c.count_fault.result (c.row_of-row.ensures ∙ ap row_of c.requires.code) c.plain_shape-shape.ensures c.count_fault.ensures
    (ap (λ (n : ℕ). (row_of n).class) (sym c.requires.code) ∙ c.requires.formula)
    (sym c.is_err.ensures.value ∙ c.if-is_err.false)
    c.put_record.result c.put_record.ensures.size.0

pub returns-clause-bytes : goal.returns-clause-bytes
returns-clause-bytes g c =
    bytes_put c.args.f c.row_of-row.result c.plain_shape-shape.result c.count_fault.result (c.row_of-row.ensures ∙ ap row_of c.requires.code) c.plain_shape-shape.ensures c.count_fault.ensures
    (ap (λ (n : ℕ). (row_of n).class) (sym c.requires.code) ∙ c.requires.formula)
    (sym c.is_err.ensures.value ∙ c.if-is_err.false)
    _ _ c.put_record.ensures.bytes
