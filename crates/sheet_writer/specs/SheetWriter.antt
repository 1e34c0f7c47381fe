-- The sheet writer at s binary places: what it answers for a run of records and a buffer of so many bytes, and what it writes.
use Rattle.std.specs.Prelude.{ℕ, ◌+◌, ◌≡◌, refl, List, [], ◌∷◌, ◌++◌, cond, eqb, ltb, length, replicate, Err, Ok, None}
use Rattle.stored.specs.Numbers.{number2, number4, bytes2, bytes4}
use Rattle.stored.specs.Words.{words}
use Rattle.formula.specs.Blank.{all_zero}
use Rattle.table.specs.Table.{rows, first_row, row_of, pieces_by}
use Rattle.table.specs.Codes.{start_row, end_row}
use Rattle.layout.specs.Fields.{bytes_at, first_count, field_of, shape_of}
use Rattle.putting.specs.Bytes.{front_bytes, framing_bytes}
use Rattle.faults.specs.Faults.{frame_fault, outside, count_fault, size_fault, length_fault, order_fault, interval_fault, own_fault, words_fault, scale_fault}
use Rattle.refusal.specs.Guard.{guard, refusal}
use Rattle.faults.specs.Refusals.{record_refusals}
use Rattle.records.specs.Records.{value_fault}
use Rattle.walking.specs.Walking.{record_fault, fault_at, found_by, walk_from, walk_of, Walked, whole}
use Rattle.record_writer.specs.Answers.{refused_by, Writing}

-- the run is walked over as it will stand in the sheet: behind the start. No number is asked for
abbrev pub run_walked : ℕ → List ℕ → Walked
run_walked s run = walk_of s run start_row.head None

-- how many records it has
abbrev pub records_in : Walked → ℕ
records_in (Ok w) = w.count
records_in (Err r) = 0

-- what a start and an end add to it
abbrev pub added : ℕ
added = start_row.head + end_row.head

-- the run's own refusal; then 12 if the buffer is shorter than the run plus 16
abbrev pub whole_writing : ℕ → ℕ → Writing
whole_writing n room = cond (ltb room (n + added)) (refused_by 12) (Ok (n + added))

abbrev pub walked_writing : Walked → ℕ → ℕ → Writing
walked_writing (Err r) n room = Err r
walked_writing (Ok w) n room = whole_writing n room

-- first a scale that no board has (6), then an empty run (4), both at place 0
unfoldable pub sheet_writing : ℕ → List ℕ → ℕ → Writing
sheet_writing s run room =
    guard (scale_fault s) refused_by
    (cond (eqb (length run) 0) (refused_by 4) (walked_writing (run_walked s run) (length run) room))

-- the refusals that it can give: those of a run's records, and 12
abbrev pub sheet_writer_refusals : List ℕ
sheet_writer_refusals = 12 ∷ record_refusals

-- one start, the run, one end with the same count
abbrev pub sheet_bytes : ℕ → List ℕ → List ℕ
sheet_bytes count run = framing_bytes start_row count ++ (run ++ framing_bytes end_row count)

-- the count is the number of records
abbrev pub sheet_of : ℕ → List ℕ → List ℕ
sheet_of s run = sheet_bytes (records_in (run_walked s run)) run

-- ---- worked examples: the sheet of the paper's listing, which has 16 bytes more than its run
abbrev example_run : List ℕ
example_run = 0x10 ∷ 0 ∷ 0 ∷ 0 ∷ 0x13 ∷ 0 ∷ 1 ∷ 0 ∷ 0 ∷ 0 ∷ 0 ∷ 0 ∷ 0 ∷ 0 ∷ 0 ∷ 2 ∷ []

sixteen_more : added ≡ 16
unfolding start_row end_row first_row rows
sixteen_more = refl

one_record : run_walked 24 example_run ≡ whole 1 None
unfolding start_row rows first_row row_of number2 number4 pieces_by words first_count field_of shape_of frame_fault bytes_at outside count_fault length_fault size_fault order_fault interval_fault own_fault words_fault value_fault record_fault fault_at found_by walk_from walk_of
one_record = refl

paper_sheet_lem : sheet_bytes 1 example_run ≡ 8 ∷ 0 ∷ 0 ∷ 0 ∷ 1 ∷ 0 ∷ 1 ∷ 0 ∷ (example_run ++ (8 ∷ 0 ∷ 0 ∷ 0 ∷ 0xff ∷ 0xff ∷ 1 ∷ 0 ∷ []))
unfolding start_row end_row first_row rows bytes2 bytes4 front_bytes
paper_sheet_lem = refl

-- the shortest buffer that it fits, and one byte less
room_enough : (sheet_writing 24 example_run 32 ≡ Ok 32) × (sheet_writing 24 example_run 31 ≡ refused_by 12)
unfolding sheet_writing scale_fault start_row end_row rows first_row row_of number2 number4 pieces_by words first_count field_of shape_of frame_fault bytes_at outside count_fault length_fault size_fault order_fault interval_fault own_fault words_fault value_fault record_fault fault_at found_by walk_from walk_of
room_enough = (refl, refl)

-- a start record in the run gives 3 at 8, an empty run 4 at 0, 15 places 6 at 0 before that
start_in_run : run_walked 24 (framing_bytes start_row 1) ≡ Err (refusal 8 3)
unfolding start_row rows first_row row_of bytes2 bytes4 front_bytes number2 number4 frame_fault bytes_at record_fault fault_at walk_from walk_of
start_in_run = refl

end_in_run : run_walked 24 (framing_bytes end_row 1) ≡ Err (refusal 8 3)
unfolding start_row end_row rows first_row row_of bytes2 bytes4 front_bytes number2 number4 frame_fault bytes_at record_fault fault_at walk_from walk_of
end_in_run = refl

first_of_all : (sheet_writing 24 [] 100 ≡ refused_by 4) × (sheet_writing 15 [] 100 ≡ refused_by 6)
unfolding sheet_writing scale_fault
first_of_all = (refl, refl)

-- 12 comes last: with no room at all a run of three bytes gives 1 at 8, and an empty one 4
room_last : (sheet_writing 24 (0 ∷ 0 ∷ 0 ∷ []) 0 ≡ Err (refusal 8 1)) × (sheet_writing 24 [] 0 ≡ refused_by 4)
unfolding sheet_writing scale_fault start_row rows first_row row_of frame_fault fault_at walk_from walk_of
room_last = (refl, refl)

-- a polynomial of one coefficient, nought, behind the paper's root: 14 at its place, and before 12
abbrev blank_behind : List ℕ
blank_behind = example_run ++ (20 ∷ 0 ∷ 0 ∷ 0 ∷ 0x10 ∷ 0 ∷ 2 ∷ 0 ∷ replicate 12 0)

blank_in_run : sheet_writing 24 blank_behind 0 ≡ Err (refusal 24 14)
unfolding sheet_writing scale_fault start_row end_row rows first_row row_of number2 number4 pieces_by words first_count field_of shape_of frame_fault bytes_at outside count_fault length_fault size_fault order_fault interval_fault own_fault words_fault all_zero value_fault record_fault fault_at found_by walk_from walk_of
blank_in_run = refl
