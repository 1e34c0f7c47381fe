-- The walk, record after record: over a sheet, or over a run of formula records that a sheet is to be put around. `from` is the place of the
-- first byte in the sheet: 0 for a sheet, which ends with an end record; behind a start for a run, which ends with its last byte.
-- The binary places are s.
use Rattle.std.specs.Prelude.{ℕ, zero, suc, ◌+◌, ◌-◌, ◌≤◌, ◌≡◌, refl, List, [], ◌∷◌, Bool, false, cond, ltb, eqb, length, replicate, Err, Result, Ok, Option, Some, None}
use Rattle.word.specs.Words.{Scale}
use Rattle.stored.specs.Numbers.{number2, number4}
use Rattle.table.specs.declared.Class.{Class}
use Rattle.table.specs.declared.Class.TheVariants.{StartRecord, FormulaRecord, EndRecord, Unknown}
use Rattle.table.specs.declared.Row.{Row}
use Rattle.table.specs.Table.{rows, first_row, row_of, pieces_by}
use Rattle.table.specs.Codes.{start_row, end_row}
use Rattle.layout.specs.Fields.{bytes_at, row_for, count_of, formula_number, first_count, field_of, shape_of}
use Rattle.refusal.specs.Guard.{guard, or_else, refusal}
use Rattle.faults.specs.Faults.{frame_fault, outside, count_fault, size_fault, length_fault, start_fault, scale_fault, order_fault, end_fault}
use Rattle.records.specs.Records.{inner_fault, formula_fault, only_formula}
pub use Rattle.walking.specs.Sought.{is_asked}
use Rattle.walking.specs.declared.Walk.{Walk}
use Rattle.refusal.specs.declared.Refusal.{Refusal}
use Rattle.walking.specs.declared.Whole.{Whole}

abbrev pub walk : ℕ → ℕ → ℕ → ℕ → Option ℕ → Option ℕ → Walk
walk a c s n k f = record { at = a; count = c; seen = s; next = n; asked = k; found = f }

-- ---- where it begins. A run may have as many records as the table lets a start say, 64
abbrev pub room_for : ℕ → ℕ
room_for zero = 0
room_for (suc n) = start_row.count.most

abbrev pub begin : ℕ → Option ℕ → Walk
begin from asked = walk from (room_for from) 0 0 asked None

-- ---- at each record: kind and place (3). The first record must be a start, no later one may be; an end may stand anywhere after the
-- start, but not in a run
abbrev pub place_fault : ℕ → Class → ℕ → ℕ
place_fault from StartRecord at = cond (eqb at 0) 0 3
place_fault from FormulaRecord at = cond (eqb at 0) 3 0
place_fault from EndRecord at = cond (eqb at 0) 3 (cond (eqb from 0) 0 3)
place_fault from Unknown at = 3

-- what follows the exact length, by the record's class: 4, then the scale (6); 4, 5, 6, 14, 7 or 8; 4
abbrev pub class_fault : ℕ → Class → Row → List ℕ → Walk → ℕ
class_fault s StartRecord r b w = or_else (start_fault r (count_of b)) (scale_fault s)
class_fault s FormulaRecord r b w = or_else (order_fault w.seen w.count w.next (formula_number b)) (inner_fault s r b)
class_fault s EndRecord r b w = end_fault w.seen w.count (count_of b)
class_fault s Unknown r b w = 0

-- kind and place (3); exact length (2); 4; 5; 6; 14; 7 or 8
unfoldable pub record_fault : ℕ → ℕ → Row → List ℕ → Walk → ℕ
record_fault s from r b w =
    or_else (place_fault from r.class w.at)
    (or_else (length_fault r b)
    (class_fault s r.class r b w))

-- the same, class by class, as the code meets them
abbrev pub start_record_fault : ℕ → List ℕ → ℕ → ℕ
start_record_fault s b at =
    cond (eqb at 0)
    (or_else (or_else (length_fault start_row b) (start_fault start_row (count_of b))) (scale_fault s))
    3

abbrev pub end_record_fault : ℕ → List ℕ → Walk → ℕ
end_record_fault from b w =
    cond (eqb w.at 0) 3
    (cond (eqb from 0) (or_else (length_fault end_row b) (end_fault w.seen w.count (count_of b))) 3)

abbrev pub other_record_fault : ℕ → List ℕ → Walk → ℕ
other_record_fault s b w =
    cond (eqb w.at 0) 3
    (or_else (only_formula (row_for b).class) (formula_fault s (row_for b) b w.seen w.count w.next))

-- the record at the walk's place
abbrev pub record_here : List ℕ → ℕ → Walk → List ℕ
record_here bytes from w = bytes_at bytes (w.at - from)

-- before all that, its frame (1, 2, 1)
unfoldable pub fault_at : ℕ → List ℕ → ℕ → Walk → ℕ
fault_at s bytes from w =
    or_else (frame_fault bytes (w.at - from))
    (record_fault s from (row_for (record_here bytes from w)) (record_here bytes from w) w)

-- ---- past a record without fault. A start stands at 0
abbrev pub after_start : List ℕ → Walk → Walk
after_start b w = walk (length b) (count_of b) 0 0 w.asked None

-- the place of the number asked for, if there is one
unfoldable pub found_by : Walk → ℕ → Option ℕ
found_by w n = cond (is_asked w.asked n) (Some w.at) w.found

abbrev pub after_formula : List ℕ → Walk → Walk
after_formula b w =
    walk (w.at + length b) w.count (w.seen + 1) (formula_number b + 1) w.asked (found_by w (formula_number b))

-- ---- what a walk answers: the count, and the place of the number asked for; or a refusal
abbrev pub Walked : Type 0
Walked = Result Whole Refusal

abbrev pub whole : ℕ → Option ℕ → Walked
whole c k = Ok (record { count = c; found = k })

-- after the end, 9: it gives the first byte too many as the place
unfoldable pub ending : Walk → ℕ → ℕ → Walked
ending w place n = cond (ltb place n) (Err (refusal place 9)) (whole w.count w.found)

-- by the class of the record (an unknown one is never without fault)
abbrev pub onward : (Walk → Walked) → Class → List ℕ → Walk → ℕ → Walked
onward next StartRecord b w n = next (after_start b w)
onward next FormulaRecord b w n = next (after_formula b w)
onward next EndRecord b w n = ending w (w.at + length b) n
onward next Unknown b w n = Err (refusal w.at 3)

-- ---- the walk. A run is whole at its last byte, with as many formulas as were seen
abbrev pub run_done : List ℕ → ℕ → Walk → Bool
run_done bytes zero w = false
run_done bytes (suc n) w = eqb (w.at - suc n) (length bytes)

-- k records at most; that there is one more is never met. Refusals 1 to 8 and 14 give the first byte of their record as the place
unfoldable pub walk_from : ℕ → ℕ → List ℕ → ℕ → Walk → Walked
walk_from zero s bytes from w = Err (refusal w.at 4)
walk_from (suc k) s bytes from w =
    cond (run_done bytes from w) (whole w.seen w.found)
    (guard (fault_at s bytes from w) (λ fault. Err (refusal w.at fault))
    (onward (walk_from k s bytes from) (row_for (record_here bytes from w)).class (record_here bytes from w) w (length bytes)))

-- a start, 64 formulas and an end are 66 records
unfoldable pub walk_of : ℕ → List ℕ → ℕ → Option ℕ → Walked
walk_of s bytes from asked = walk_from 66 s bytes from (begin from asked)

-- ---- worked examples. A start and an end of so many bytes, with a count
abbrev starting : ℕ → ℕ → List ℕ
starting n c = n ∷ 0 ∷ 0 ∷ 0 ∷ 1 ∷ 0 ∷ c ∷ 0 ∷ replicate (n - 8) 0

abbrev closing : ℕ → ℕ → List ℕ
closing n c = n ∷ 0 ∷ 0 ∷ 0 ∷ 255 ∷ 255 ∷ c ∷ 0 ∷ replicate (n - 8) 0

-- the walk behind a start of one formula, with so many seen
abbrev behind : ℕ → Walk
behind seen = walk 8 1 seen 0 None None

-- 3 before 2: a start that is no first record, and an end that is; in their places 2
kind_first :
    (record_fault 24 0 (row_of 0x0001) (starting 12 1) (behind 0) ≡ 3)
    × (record_fault 24 0 (row_of 0x0001) (starting 12 1) (begin 0 None) ≡ 2)
    × (record_fault 24 0 (row_of 0xffff) (closing 12 1) (begin 0 None) ≡ 3)
    × (record_fault 24 0 (row_of 0xffff) (closing 12 1) (behind 1) ≡ 2)
unfolding rows first_row row_of number2 first_count field_of shape_of pieces_by outside count_fault size_fault length_fault start_fault end_fault scale_fault record_fault
kind_first = (refl, refl, refl, refl)

-- 2 before 4: an end of 12 bytes that comes too early. A start's count of 64 and of 65 (4), which comes before the scale (6)
length_first :
    (record_fault 24 0 (row_of 0xffff) (closing 12 1) (behind 0) ≡ 2)
    × (record_fault 24 0 (row_of 0xffff) (closing 8 1) (behind 0) ≡ 4)
    × (record_fault 24 0 (row_of 0xffff) (closing 8 1) (behind 1) ≡ 0)
unfolding rows first_row row_of number2 first_count field_of shape_of pieces_by outside count_fault size_fault length_fault start_fault end_fault scale_fault record_fault
length_first = (refl, refl, refl)

count_first :
    (record_fault 24 0 (row_of 0x0001) (starting 8 64) (begin 0 None) ≡ 0)
    × (record_fault 15 0 (row_of 0x0001) (starting 8 65) (begin 0 None) ≡ 4)
    × (record_fault 15 0 (row_of 0x0001) (starting 8 64) (begin 0 None) ≡ 6)
unfolding rows first_row row_of number2 first_count field_of shape_of pieces_by outside count_fault size_fault length_fault start_fault end_fault scale_fault record_fault
count_first = (refl, refl, refl)

-- 3 for a formula in the first place, for an unknown kind and, in a run, for an end; 2 of the frame comes before it
in_place :
    (place_fault 0 FormulaRecord 0 ≡ 3)
    × (place_fault 0 FormulaRecord 8 ≡ 0)
    × (place_fault 0 Unknown 8 ≡ 3)
    × (place_fault 0 EndRecord 8 ≡ 0)
    × (place_fault 8 EndRecord 8 ≡ 3)
in_place = (refl, refl, refl, refl, refl)

frame_first : (fault_at 24 (7 ∷ 0 ∷ 0 ∷ 0 ∷ 2 ∷ 0 ∷ 0 ∷ []) 0 (begin 0 None) ≡ 2) × (fault_at 24 (8 ∷ 0 ∷ 0 ∷ 0 ∷ 2 ∷ 0 ∷ 0 ∷ 0 ∷ []) 0 (begin 0 None) ≡ 3)
unfolding rows first_row row_of number2 number4 first_count field_of shape_of pieces_by outside count_fault size_fault length_fault frame_fault bytes_at record_fault fault_at
frame_first = (refl, refl)

-- behind a formula numbered 4 the next number is 5
next_number_lem : (w : Walk) → (after_formula (16 ∷ 0 ∷ 0 ∷ 0 ∷ 0x13 ∷ 0 ∷ 4 ∷ 0 ∷ []) w).next ≡ 5
unfolding number2
next_number_lem w = refl

-- a run has room for 64 records, a sheet for as many as its start says
room : ((begin 8 None).count ≡ 64) × ((begin 0 None).count ≡ 0)
unfolding rows first_row start_row
room = (refl, refl)

-- ---- what the functions ask of their callers: a run stands not far from the sheet's first byte, and its scale is a board's
pub record Walkable (s from : ℕ) : Type 0 where
  pub near : from ≤ 120
  pub scale : ¬ (from ≡ 0) → Scale s

-- the walk stands within the bytes
pub record Standing (bytes : List ℕ) (from : ℕ) (w : Walk) : Type 0 where
  pub begun : from ≤ w.at
  pub within : w.at ≤ from + length bytes
