-- The bytes of a sheet as they are put into a buffer: how long its parts are.
use Rattle.whole.proofs.Basics.{◌≡◌, refl, List, ◌++◌, ℕ, ◌+◌, arith, length, length-append}
use Rattle.stored.proofs.StoreLaws.{length-bytes2, length-bytes4}
use Rattle.table.specs.Table.{rows, first_row}
use Rattle.table.specs.Codes.{start_row, end_row}
use Rattle.table.specs.declared.Row.{Row}
use Rattle.putting.specs.Bytes.{front_bytes, framing_bytes}
use Rattle.sheet_writer.specs.SheetWriter.{added, sheet_bytes}

pub start_head : start_row.head ≡ 8
unfolding start_row first_row rows
start_head = refl

pub end_head : end_row.head ≡ 8
unfolding end_row first_row rows
end_head = refl

pub length_framing : (r : Row) (count : ℕ) → length (framing_bytes r count) ≡ 8
unfolding front_bytes
length_framing r count = simp (length-append, length-bytes4, length-bytes2)

pub length_sheet : (count : ℕ) (run : List ℕ) → length (sheet_bytes count run) ≡ length run + added
length_sheet count run =
    let start = framing_bytes start_row count in
    let finish = framing_bytes end_row count in
    omega (arith, length-append start (run ++ finish), length-append run finish, length_framing start_row count, length_framing end_row count, start_head, end_head)
