-- The listing of a sheet: `too long`, or `refused` with number and place, or the formula count and a line for each formula.
use Rattle.std.specs.Prelude.{ℕ, zero, suc, ◌+◌, ◌≡◌, refl, List, [], ◌∷◌, ◌++◌, Bool, true, false, cond, ltb, length, take, replicate, Err, Ok}
use Rattle.word.specs.Rounded.{rounded_up}
use Rattle.word.specs.Words.{unit}
use Rattle.stored.specs.Numbers.{number2, number4}
use Rattle.stored.specs.Words.{words}
use Rattle.polynomial.specs.Polynomial.{bound_of}
use Rattle.formula.specs.Blank.{all_zero}
use Rattle.table.specs.Table.{rows, first_row, row_of, pieces_by}
use Rattle.layout.specs.Fields.{bytes_at, first_count, field_of, shape_of, formula_of}
use Rattle.faults.specs.Faults.{frame_fault, outside, count_fault, size_fault, length_fault, start_fault, scale_fault, order_fault, end_fault, own_fault, interval_fault, words_fault}
use Rattle.records.specs.Records.{value_fault}
use Rattle.walking.specs.Walking.{record_fault, fault_at, found_by, ending, walk_from, walk_of}
use Rattle.sheet.specs.Reader.{formula_count, formula_in, formula_at, FormulaCount}
use Rattle.text.specs.Text.{text, digits_by, decimal}
use Rattle.line.specs.Line.{line_of, count_line, refusal_line}

-- a listing is of a sheet at so many binary places
abbrev pub places : ℕ
places = 24

-- in sheet order: the line of the formula at a place, and on by its record's length
unfoldable pub lines_from : ℕ → List ℕ → ℕ → List ℕ
lines_from zero bytes place = []
lines_from (suc n) bytes place = line_of (formula_at bytes place) ++ lines_from n bytes (place + number4 bytes place)

-- the first formula stands behind the start record
abbrev pub listing_by : List ℕ → FormulaCount → List ℕ
listing_by bytes (Err r) = refusal_line r
listing_by bytes (Ok c) = count_line c ++ lines_from c bytes (number4 bytes 0)

-- more bytes than the programs take
abbrev pub too_long : ℕ → Bool
too_long n = ltb 8192 n

abbrev pub too_long_line : List ℕ
too_long_line = text "too long\n"

unfoldable pub listing : List ℕ → List ℕ
listing bytes = cond (too_long (length bytes)) too_long_line (listing_by bytes (formula_count places bytes))

-- the lines of records, each from its own bytes
abbrev pub lines_of : List (List ℕ) → List ℕ
lines_of [] = []
lines_of (b ∷ bs) = line_of (formula_in b) ++ lines_of bs

-- ---- worked examples. The longest input, and one byte more; the word of one
longest : (too_long 8192 ≡ false) × (too_long 8193 ≡ true) × (too_long_line ≡ 116 ∷ 111 ∷ 111 ∷ 32 ∷ 108 ∷ 111 ∷ 110 ∷ 103 ∷ 10 ∷ [])
longest = (refl, refl, refl)

word_of_one : unit places ≡ 16777216
word_of_one = refl

-- the paper's own sheet, without its end record and with it
abbrev front : List ℕ
front = 8 ∷ 0 ∷ 0 ∷ 0 ∷ 1 ∷ 0 ∷ 1 ∷ 0 ∷ 0x10 ∷ 0 ∷ 0 ∷ 0 ∷ 0x13 ∷ 0 ∷ 1 ∷ 0 ∷ 0 ∷ 0 ∷ 0 ∷ 0 ∷ 0 ∷ 0 ∷ 0 ∷ 2 ∷ []

abbrev paper_sheet : List ℕ
paper_sheet = front ++ (8 ∷ 0 ∷ 0 ∷ 0 ∷ 0xff ∷ 0xff ∷ 1 ∷ 0 ∷ [])

-- as it stands; cut to 24 or 31 bytes; with the last 8 bytes zero; empty input
paper_listings :
    (listing paper_sheet ≡ text "formulas 1\n1 root 0 33554432\n")
    × (listing (take 24 paper_sheet) ≡ text "refused 1 at 24\n")
    × (listing (take 31 paper_sheet) ≡ text "refused 1 at 24\n")
    × (listing (front ++ replicate 8 0) ≡ text "refused 2 at 24\n")
    × (listing [] ≡ text "refused 1 at 0\n")
unfolding listing count_line refusal_line lines_from line_of digits_by decimal formula_count walk_of walk_from fault_at found_by ending frame_fault bytes_at record_fault length_fault size_fault count_fault outside start_fault scale_fault order_fault end_fault value_fault own_fault interval_fault words_fault number2 number4 words rows first_row row_of first_count field_of shape_of pieces_by formula_of
paper_listings = (refl, refl, refl, refl, refl)

-- an odd formula and an even one, one step each, from -1 step to 1
abbrev odd_and_even_sheet : List ℕ
odd_and_even_sheet =
    8 ∷ 0 ∷ 0 ∷ 0 ∷ 1 ∷ 0 ∷ 2 ∷ 0
    ∷ 20 ∷ 0 ∷ 0 ∷ 0 ∷ 0x14 ∷ 0 ∷ 1 ∷ 0 ∷ 0xff ∷ 0xff ∷ 0xff ∷ 0xff ∷ 1 ∷ 0 ∷ 0 ∷ 0 ∷ 1 ∷ 0 ∷ 0 ∷ 0
    ∷ 20 ∷ 0 ∷ 0 ∷ 0 ∷ 0x15 ∷ 0 ∷ 2 ∷ 0 ∷ 0xff ∷ 0xff ∷ 0xff ∷ 0xff ∷ 1 ∷ 0 ∷ 0 ∷ 0 ∷ 1 ∷ 0 ∷ 0 ∷ 0
    ∷ 8 ∷ 0 ∷ 0 ∷ 0 ∷ 0xff ∷ 0xff ∷ 2 ∷ 0
    ∷ []

odd_and_even_listed : listing odd_and_even_sheet ≡ text "formulas 2\n1 odd -1 1\n2 even -1 1\n"
unfolding all_zero bound_of rounded_up listing count_line refusal_line lines_from line_of digits_by decimal formula_count walk_of walk_from fault_at found_by ending frame_fault bytes_at record_fault length_fault size_fault count_fault outside start_fault scale_fault order_fault end_fault value_fault own_fault interval_fault words_fault number2 number4 words rows first_row row_of first_count field_of shape_of pieces_by formula_of
odd_and_even_listed = refl

-- the paper's root, and behind it a polynomial whose two coefficients are zero
abbrev blank_sheet : List ℕ
blank_sheet =
    8 ∷ 0 ∷ 0 ∷ 0 ∷ 1 ∷ 0 ∷ 2 ∷ 0
    ∷ 0x10 ∷ 0 ∷ 0 ∷ 0 ∷ 0x13 ∷ 0 ∷ 1 ∷ 0 ∷ 0 ∷ 0 ∷ 0 ∷ 0 ∷ 0 ∷ 0 ∷ 0 ∷ 2
    ∷ 24 ∷ 0 ∷ 0 ∷ 0 ∷ 0x10 ∷ 0 ∷ 2 ∷ 0 ∷ 0 ∷ 0 ∷ 0 ∷ 0 ∷ 0 ∷ 0 ∷ 0 ∷ 1 ∷ (replicate 8 0 ++ (8 ∷ 0 ∷ 0 ∷ 0 ∷ 0xff ∷ 0xff ∷ 2 ∷ 0 ∷ []))

blank_listed : listing blank_sheet ≡ text "refused 14 at 24\n"
unfolding all_zero listing refusal_line digits_by decimal formula_count walk_of walk_from fault_at found_by frame_fault bytes_at record_fault length_fault size_fault count_fault outside start_fault scale_fault order_fault value_fault own_fault interval_fault words_fault number2 number4 words rows first_row row_of first_count field_of shape_of pieces_by
blank_listed = refl
