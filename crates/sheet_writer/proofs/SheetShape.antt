-- A run of formula records between a start and an end of its count is a sheet, and is written as one.
use Rattle.whole.proofs.Basics.{◌≡◌, refl, ap, List, [], ◌∷◌, ◌++◌, append-nil, ℕ, ◌+◌, ◌≤◌, ◌<◌, arith, length, length-append, ne_eqb, le-ltb}
use Rattle.word.specs.Words.{Scale}
use Rattle.stored.specs.Numbers.{number2, number4, bytes2, bytes4}
use Rattle.table.specs.declared.Class.TheVariants.{StartRecord, EndRecord}
use Rattle.table.specs.declared.Row.{Row}
use Rattle.table.specs.Table.{rows, first_row, row_of, pieces_by}
use Rattle.table.specs.Codes.{start_row, end_row}
use Rattle.layout.specs.Fields.{count_of, first_count, field_of, shape_of}
use Rattle.putting.specs.Bytes.{front_bytes, framing_bytes}
use Rattle.putting.proofs.RecordBack.{number_back}
use Rattle.faults.specs.Faults.{outside, count_fault, size_fault, length_fault}
use Rattle.faults.proofs.ScaleLaws.{no_scale_fault}
use Rattle.records.specs.Sheets.{RecordOf, EachFormula, in_line, RunOf, SheetOf}
use Rattle.walking.proofs.ShapeToWalk.{run_walked_lem}
use Rattle.sheet_writer.specs.SheetWriter.{added, run_walked, sheet_bytes, sheet_writing}
use Rattle.sheet_writer.proofs.SheetLaws.{start_head}
use Rattle.walking.specs.Walking.{whole}
use Rattle.std.specs.Prelude.{Ok, Option, None}

pub start_record : (c : ℕ) → RecordOf StartRecord (framing_bytes start_row c)
unfolding start_row front_bytes bytes2 bytes4 number2 number4 rows first_row row_of first_count field_of shape_of pieces_by outside count_fault length_fault size_fault
start_record c = record { least = omega arith; most = omega arith; says = refl; class = refl; exact = refl }

pub end_record : (c : ℕ) → RecordOf EndRecord (framing_bytes end_row c)
unfolding end_row front_bytes bytes2 bytes4 number2 number4 rows first_row row_of first_count field_of shape_of pieces_by outside count_fault length_fault size_fault
end_record c = record { least = omega arith; most = omega arith; says = refl; class = refl; exact = refl }

pub count_back : (r : Row) (c : ℕ) → c < 65536 → count_of (framing_bytes r c) ≡ c
count_back r c h = rw (append-nil (framing_bytes r c)) at (number_back r.head r.code c [] h)

unfoldable pub sheet_shape : (s c : ℕ) (run : List ℕ) → Scale s → 1 ≤ c → RunOf s c run → SheetOf s c (sheet_bytes c run)
sheet_shape s c run k m r =
    let l : c < 65536 = omega (arith, r.most) in
    record {
      scale = k;
      start = framing_bytes start_row c;
      formulas = r.formulas;
      finish = framing_bytes end_row c;
      whole = ap (λ (t : List ℕ). framing_bytes start_row c ++ (t ++ framing_bytes end_row c)) r.whole;
      opens = (start_record c, count_back start_row c l, m, r.most);
      many = r.many;
      each = r.each;
      rising = r.rising;
      closes = (end_record c, count_back end_row c l);
    }

-- the walk over such a run
pub run_is_whole : (s c : ℕ) (run : List ℕ) → RunOf s c run → (k : Option ℕ) × (run_walked s run ≡ whole c k)
run_is_whole s c run r = rw start_head (_, run_walked_lem s c run r 7 None)

some_byte : (s : ℕ) (l : List (List ℕ)) → 1 ≤ length l → EachFormula s l → length (in_line l) ≡ 0 → ⊥
some_byte s [] n e z = omega arith
some_byte s (b ∷ l) n e z = omega (arith, z, length-append b (in_line l), e.0.one.least)

pub sheet_written : (s c : ℕ) (run : List ℕ) (room : ℕ) → Scale s → 1 ≤ c → RunOf s c run → length run + added ≤ room → sheet_writing s run room ≡ Ok (length run + added)
unfolding sheet_writing
sheet_written s c run room k m r h =
    let some : length run ≡ 0 → ⊥ = λ z. some_byte s r.formulas (omega (arith, r.many, m)) r.each (rw r.whole at z) in
    rw (no_scale_fault s k, ne_eqb (length run) 0 some, (run_is_whole s c run r).1, le-ltb room (length run + added) h) refl
