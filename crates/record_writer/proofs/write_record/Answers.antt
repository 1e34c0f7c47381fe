-- `record_writer::write_record` meets its contract: no formula (3), the scale's fault, the counts', and what the reader's check makes of the record.
use Rattle.whole.proofs.Basics.{◌∙◌, sym, rules}
use Rattle.std.proofs.lemmas.Result.{err_from_is_err_and}
use Rattle.putting.specs.Plain.{Handed}
use Rattle.faults.proofs.ScaleLaws.{good_scale}
use Rattle.record_writer.proofs.Elements.{element}
use Rattle.record_writer.proofs.RecordWriting.{refuses}
use Rattle.record_writer.proofs.Written.{no_code, class_code, past_code, none_written, within, as_long, least, most, answer, buffer}
use Rattle.record_writer.proofs.write_record.Goals as goal

pub returns-then-code-eq0-clause-result : goal.returns-then-code-eq0-clause-result
returns-then-code-eq0-clause-result c = rw c.from.ensures (no_code c.args.s c.args.f _ (sym c.code_for-code.ensures ∙ c.if-code-eq0.true))

pub returns-in_err-scale_fault-clause-result : goal.returns-in_err-scale_fault-clause-result
returns-in_err-scale_fault-clause-result c =
    let p = err_from_is_err_and c.from_residual.result c.from_residual.ensures.1 in
    rw (p.1, p.2) (past_code c.args.s c.args.f c.code_for-code.result c.code_for-code.ensures c.if-code-eq0.false _ (refuses _ _ c.in_err-scale_fault.ensures))

pub put_by_kind-requires-clause-formula : goal.put_by_kind-requires-clause-formula
put_by_kind-requires-clause-formula c = class_code c.args.s c.args.f c.code_for-code.result c.code_for-code.ensures c.if-code-eq0.false

pub returns-in_default-clause-result : goal.returns-in_default-clause-result
returns-in_default-clause-result c =
    rw c.from-in_default.ensures (none_written c.args.s c.args.f c.code_for-code.result c.code_for-code.ensures c.if-code-eq0.false _ c.in_ok-scale_fault.ensures (sym c.in_default.is ∙ c.put_by_kind.ensures.size))

pub slice_bounds-bytes-end : goal.slice_bounds-bytes-end
slice_bounds-bytes-end c =
    let h : Handed c.args.f = record { number = search rules; mode = search rules; lo = search rules; hi = search rules; each = λ k. search (rules, element); long = search rules } in
    within c.args.s c.args.f c.code_for-code.result c.code_for-code.ensures c.if-code-eq0.false c.in-Some.n c.put_by_kind.new.bytes h c.in-Some.ensures.size c.put_by_kind.ensures.bytes

pub slice_bounds-copy_judged-end : goal.slice_bounds-copy_judged-end
slice_bounds-copy_judged-end c =
    let h : Handed c.args.f = record { number = search rules; mode = search rules; lo = search rules; hi = search rules; each = λ k. search (rules, element); long = search rules } in
    as_long c.args.s c.args.f c.code_for-code.result c.code_for-code.ensures c.if-code-eq0.false c.in-Some.n c.put_by_kind.new.bytes h c.in-Some.ensures.size c.put_by_kind.ensures.bytes

pub copy_judged-requires : goal.copy_judged-requires
copy_judged-requires c =
    let h : Handed c.args.f = record { number = search rules; mode = search rules; lo = search rules; hi = search rules; each = λ k. search (rules, element); long = search rules } in (
      good_scale c.args.s (sym c.in_ok-scale_fault.ensures),
      least c.args.s c.args.f c.code_for-code.result c.code_for-code.ensures c.if-code-eq0.false c.in-Some.n c.put_by_kind.new.bytes h c.in-Some.ensures.size c.put_by_kind.ensures.bytes,
      most c.args.s c.args.f c.code_for-code.result c.code_for-code.ensures c.if-code-eq0.false c.in-Some.n c.put_by_kind.new.bytes h c.in-Some.ensures.size c.put_by_kind.ensures.bytes,
    )

pub returns-clause-result : goal.returns-clause-result
returns-clause-result c =
    let h : Handed c.args.f = record { number = search rules; mode = search rules; lo = search rules; hi = search rules; each = λ k. search (rules, element); long = search rules } in
    answer c.args.s c.args.f c.code_for-code.result c.code_for-code.ensures c.if-code-eq0.false c.in-Some.n c.put_by_kind.new.bytes h c.in-Some.ensures.size c.put_by_kind.ensures.bytes _ c.in_ok-scale_fault.ensures c.copy_judged.ensures.result

pub returns-clause-buffer : goal.returns-clause-buffer
returns-clause-buffer c =
    let h : Handed c.args.f = record { number = search rules; mode = search rules; lo = search rules; hi = search rules; each = λ k. search (rules, element); long = search rules } in
    buffer c.args.s c.args.f c.code_for-code.result c.code_for-code.ensures c.if-code-eq0.false c.in-Some.n c.put_by_kind.new.bytes h c.in-Some.ensures.size c.put_by_kind.ensures.bytes c.copy_judged.result c.args.out.now c.copy_judged.ensures.buffer
