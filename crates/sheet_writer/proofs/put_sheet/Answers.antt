-- `put_sheet` meets its contract: start, run and end are put one behind the other.
use Rattle.whole.proofs.Basics.{◌≡◌, ◌∙◌, ap, List, ◌++◌, append_assoc, ℕ, ◌+◌, arith, length, length-append}
use lib.Seq.{sets, length-sets}
use Rattle.stored.proofs.StoreLaws.{next}
use Rattle.table.specs.Codes.{start_row, end_row, the_start, the_end}
use Rattle.table.specs.declared.Row.{Row}
use Rattle.table.proofs.Rule.{ruled}
use Rattle.putting.specs.Bytes.{framing_bytes}
use Rattle.sheet_writer.proofs.SheetLaws.{start_head, end_head, length_framing}
use Rattle.sheet_writer.proofs.put_sheet.Goals as goal

as_long : {d : List ℕ} (l : List ℕ) (i : ℕ) (a : List ℕ) → d ≡ sets l i a → length d ≡ length l
as_long l i a e = ap length e ∙ length-sets l i a

head : (r s : Row) → r ≡ s → s ≡ start_row → r.head ≡ 8
head r s e q = ap (λ (x : Row). x.head) (e ∙ q) ∙ start_head

pub put_framing-requires-clause-ruled : goal.put_framing-requires-clause-ruled
put_framing-requires-clause-ruled c = rw c.row_of-start.ensures (ruled 0x0001)

pub put_framing-requires-clause-room : goal.put_framing-requires-clause-room
put_framing-requires-clause-room c = omega (arith, c.requires, start_head, end_head)

pub put_bytes-requires : goal.put_bytes-requires
put_bytes-requires c =
    let h = head _ _ c.row_of-start.ensures the_start in
    omega (arith, h, c.requires, start_head, end_head, as_long c.args.out.now 0 (framing_bytes c.row_of-start.result c.args.count) c.put_framing.ensures)

pub overflow_add-start : goal.overflow_add-start
overflow_add-start c =
    let h = head _ _ c.row_of-start.ensures the_start in
    omega (arith, h, c.requires, start_head, end_head)

pub put_framing-requires-2-clause-ruled : goal.put_framing-requires-2-clause-ruled
put_framing-requires-2-clause-ruled c = rw c.row_of.ensures (ruled 0xffff)

pub put_framing-requires-2-clause-room : goal.put_framing-requires-2-clause-room
put_framing-requires-2-clause-room c =
    let h = head _ _ c.row_of-start.ensures the_start in
    omega (arith, h, c.requires, start_head, end_head, as_long c.args.out.now 0 (framing_bytes c.row_of-start.result c.args.count) c.put_framing.ensures, as_long c.put_framing.new.out c.row_of-start.result.head c.args.run.now c.put_bytes.ensures)

pub returns : goal.returns
returns c =
    let run = c.args.run.now in
    let out = c.args.out.now in
    let at = c.row_of-start.result.head in
    let h = head _ _ c.row_of-start.ensures the_start in
    let first = framing_bytes start_row c.args.count in
    let last = framing_bytes end_row c.args.count in
    let l = length_framing start_row c.args.count in
    rw (← append_assoc first run last)
    (next out (first ++ run) last 0 (at + length run)
    (next out first run 0 at (rw (c.row_of-start.ensures ∙ the_start) at c.put_framing.ensures) (omega (arith, l, h)) c.put_bytes.ensures)
    (omega (arith, l, h, length-append first run)) (rw (c.row_of.ensures ∙ the_end) at c.put_framing-2.ensures))
