-- By the input's length, then by the reader's answer.
use Rattle.whole.proofs.Basics.{◌∙◌, sym, arith}
use Rattle.text.proofs.TextLaws.{behind}
use Rattle.lines.proofs.LineLaws.{shape_of_count, too_long_lem, by_reader}
use Rattle.lines.proofs.put_listing.Goals as goal

pub returns-then-s-gt8192-clause-put : goal.returns-then-s-gt8192-clause-put
returns-then-s-gt8192-clause-put c = rw (too_long_lem c.args.s.now c.if-s-gt8192.true) c.put_text.ensures.put

pub put_lines-requires : goal.put_lines-requires
put_lines-requires c =
    let e = sym c.formula_count.ensures ∙ c.in-Ok.is in
    let h = shape_of_count _ _ c.args.s.now e in
    (e, omega (arith, h.opens.3))

pub returns-in-Ok-clause-put : goal.returns-in-Ok-clause-put
returns-in-Ok-clause-put c =
    let e = sym c.formula_count.ensures ∙ c.in-Ok.is in
    rw (by_reader c.args.s.now c.if-s-gt8192.false, e) (behind c.put_count.ensures.put c.put_lines.ensures.put)

pub returns-in-Ok-clause-room : goal.returns-in-Ok-clause-room
returns-in-Ok-clause-room c =
    let e = sym c.formula_count.ensures ∙ c.in-Ok.is in
    let h = shape_of_count _ _ c.args.s.now e in
    omega (arith, h.opens.3)

pub returns-in-Err-clause-put : goal.returns-in-Err-clause-put
returns-in-Err-clause-put c =
    let e = sym c.formula_count.ensures ∙ c.in-Err.is in
    rw (by_reader c.args.s.now c.if-s-gt8192.false, e) c.put_refusal.ensures.put
