-- The record writer at s binary places: what it answers for a formula and a buffer of so many bytes, and what it writes.
use Rattle.std.specs.Prelude.{ℕ, ◌≡◌, refl, List, [], ◌∷◌, true, cond, eqb, ltb, length, replicate, pos, Ok, Option, Some, None}
use Rattle.std.proofs.Common.{arith}
use Rattle.std.proofs.lemmas.List.Edits.{sets}
use Rattle.word.specs.Rounded.{rounded_up}
use Rattle.word.specs.Words.{Scale}
use Rattle.stored.specs.Numbers.{bytes2, bytes4}
use Rattle.polynomial.specs.Polynomial.{bound, bound_of}
use Rattle.formula.specs.declared.Kind.TheVariants.{Polynomial, Rational, Root, NoFormula}
use Rattle.formula.specs.declared.Formula.{Formula}
use Rattle.formula.specs.Blank.{all_zero, blank_of}
use Rattle.table.specs.declared.Class.TheVariants.{FormulaRecord}
use Rattle.table.specs.declared.Row.{Row}
use Rattle.table.specs.Table.{rows, first_row, row_of, pieces_by, length_by}
use Rattle.table.specs.Codes.{code_for}
use Rattle.layout.specs.Fields.{shape, formula, padded, row_for, words_in}
use Rattle.putting.specs.Plain.{kept, plain_shape, plain_by, row_by, plain}
use Rattle.putting.specs.Bytes.{front_bytes, head_bytes, field_bytes, fields_bytes, word_bytes, record_bytes}
use Rattle.refusal.specs.Guard.{guard, or_else}
use Rattle.faults.specs.Faults.{outside, count_fault, interval_fault, words_fault, own_fault, scale_fault}
use Rattle.records.specs.Records.{value_fault, only_formula, formula_fault}
use Rattle.record_writer.specs.Answers.{refused_by, Writing}

-- 12 if the buffer is shorter than the record
unfoldable pub room_writing : ℕ → ℕ → Writing
room_writing n room = cond (ltb room n) (refused_by 12) (Ok n)

-- 2 for a count outside its range; 6; 14; 7 or 8
unfoldable pub plain_writing : ℕ → Row → Formula → ℕ → Writing
plain_writing s r f room =
    guard (count_fault r f.shape.p f.shape.q) refused_by
    (guard (value_fault s r f.shape f.lo f.hi (words_in f)) refused_by
    (room_writing (length_by r f.shape.p f.shape.q) room))

-- 3 first of all for a kind that is no formula, then 6 for binary places that no board has. Fields that the kind has not are ignored
unfoldable pub record_writing : ℕ → Formula → ℕ → Writing
record_writing s f room =
    guard (only_formula (row_by f).class) refused_by
    (guard (scale_fault s) refused_by
    (plain_writing s (row_by f) (plain f) room))

-- the refusals that it can give
abbrev pub record_writer_refusals : List ℕ
record_writer_refusals = 3 ∷ 2 ∷ 6 ∷ 14 ∷ 7 ∷ 8 ∷ 12 ∷ []

abbrev pub bytes_of : Formula → List ℕ
bytes_of f = record_bytes (row_by f) (plain f)

-- 2 for a count outside its range, of the formula with the fields that its kind has
abbrev pub counts_fault : Formula → ℕ
counts_fault f = count_fault (row_by f) (plain f).shape.p (plain f).shape.q

-- what is put together at the front of an array: the record, and its length; or nothing, and none, where there is that fault
abbrev pub put_size : Formula → Option ℕ
put_size f = cond (eqb (counts_fault f) 0) (Some (length (bytes_of f))) None

abbrev pub put_into : Formula → List ℕ → List ℕ
put_into f l = cond (eqb (counts_fault f) 0) (sets l 0 (bytes_of f)) l

-- what the reader's own check makes of a record's bytes, as those of the first of one formula
unfoldable pub judged_writing : ℕ → List ℕ → ℕ → Writing
judged_writing s b room = guard (or_else (only_formula (row_for b).class) (formula_fault s (row_for b) b 0 1 0)) refused_by (room_writing (length b) room)

-- a blank formula of which nothing else is wrong: kind, binary places, counts, interval, mode and words are without fault
pub record OnlyBlank (s : ℕ) (f : Formula) : Type 0 where
  pub class : (row_by f).class ≡ FormulaRecord
  pub scale : Scale s
  pub counts : count_fault (row_by f) (plain f).shape.p (plain f).shape.q ≡ 0
  pub own : own_fault (row_by f) (plain f).shape (plain f).lo (plain f).hi ≡ 0
  pub words : words_fault (words_in (plain f)) ≡ 0
  pub blank : blank_of (plain f).shape (words_in (plain f)) ≡ true

-- ---- worked examples: the root of the paper's listing, with fields that a root has not
abbrev example_root : Formula
example_root = formula 1 (shape Root 7 7 7) (pos 0) (pos 33554432) (padded (pos 5 ∷ []))

root_bytes : bytes_of example_root ≡ 0x10 ∷ 0 ∷ 0 ∷ 0 ∷ 0x13 ∷ 0 ∷ 1 ∷ 0 ∷ 0 ∷ 0 ∷ 0 ∷ 0 ∷ 0 ∷ 0 ∷ 0 ∷ 2 ∷ []
unfolding rows first_row row_of code_for bytes2 bytes4 pieces_by padded kept plain_shape plain_by front_bytes head_bytes field_bytes fields_bytes word_bytes record_bytes
root_bytes = refl

-- 12 at one byte short
root_room : (record_writing 24 example_root 16 ≡ Ok 16) × (record_writing 24 example_root 15 ≡ refused_by 12)
unfolding rows first_row row_of code_for pieces_by padded kept plain_shape plain_by outside count_fault interval_fault words_fault own_fault value_fault scale_fault room_writing plain_writing record_writing
root_room = (refl, refl)

-- 16 to 28 binary places, and 6 comes before 12
root_places :
    (record_writing 15 example_root 0 ≡ refused_by 6)
    × (record_writing 16 example_root 16 ≡ Ok 16)
    × (record_writing 28 example_root 16 ≡ Ok 16)
    × (record_writing 29 example_root 0 ≡ refused_by 6)
unfolding rows first_row row_of code_for pieces_by padded kept plain_shape plain_by outside count_fault interval_fault words_fault own_fault value_fault scale_fault room_writing plain_writing record_writing
root_places = (refl, refl, refl, refl)

-- a polynomial with so many coefficients, all of them 1 step
abbrev steps : ℕ → Formula
steps n = formula 1 (shape Polynomial n 0 0) (pos 0) (pos 0) (replicate 32 (pos 1))

-- 20 bytes are put together for one, 80 for 16, none for 0 or 17; what stands behind a record stays
sizes :
    (put_size (steps 0) ≡ None)
    × (put_size (steps 1) ≡ Some 20)
    × (put_size (steps 16) ≡ Some 80)
    × (put_size (steps 17) ≡ None)
    × (put_into (steps 17) (7 ∷ []) ≡ 7 ∷ [])
    × (put_into example_root (replicate 17 9) ≡ 0x10 ∷ 0 ∷ 0 ∷ 0 ∷ 0x13 ∷ 0 ∷ 1 ∷ 0 ∷ 0 ∷ 0 ∷ 0 ∷ 0 ∷ 0 ∷ 0 ∷ 0 ∷ 2 ∷ 9 ∷ [])
unfolding rows first_row row_of code_for bytes2 bytes4 pieces_by padded kept plain_shape plain_by outside count_fault front_bytes head_bytes field_bytes fields_bytes word_bytes record_bytes
sizes = (refl, refl, refl, refl, refl, refl)

-- 1 to 16 coefficients
counts :
    (record_writing 24 (steps 0) 120 ≡ refused_by 2)
    × (record_writing 24 (steps 1) 20 ≡ Ok 20)
    × (record_writing 24 (steps 16) 80 ≡ Ok 80)
    × (record_writing 24 (steps 17) 120 ≡ refused_by 2)
unfolding rounded_up bound_of rows first_row row_of code_for pieces_by padded kept plain_shape plain_by outside count_fault interval_fault words_fault all_zero own_fault value_fault scale_fault room_writing plain_writing record_writing
counts = (refl, refl, refl, refl)

-- no formula: 3 comes before 6 (the places, and lo above hi) and 12
no_formula_lem : record_writing 0 (formula 1 (shape NoFormula 0 0 0) (pos 1) (pos 0) (padded [])) 0 ≡ refused_by 3
unfolding rows first_row row_of code_for record_writing
no_formula_lem = refl

-- a count of 0 at 15 places: 6 of the places comes before 2
places_first : record_writing 15 (steps 0) 0 ≡ refused_by 6
unfolding rows first_row row_of code_for scale_fault record_writing
places_first = refl

-- 12 comes last: with no room at all a count of 0 gives 2, lo above hi 6, and M + M·x up to one 7
abbrev refused_first : ℕ → ℕ → ℕ → Formula
refused_first n lo hi = formula 1 (shape Polynomial n 0 0) (pos lo) (pos hi) (padded (pos 2147483647 ∷ pos 2147483647 ∷ []))

room_last :
    (record_writing 24 (refused_first 0 1 0) 0 ≡ refused_by 2)
    × (record_writing 24 (refused_first 2 16777216 0) 0 ≡ refused_by 6)
    × (record_writing 24 (refused_first 2 0 16777216) 0 ≡ refused_by 7)
    × (record_writing 24 (refused_first 1 0 16777216) 19 ≡ refused_by 12)
    × (record_writing 24 (refused_first 1 0 16777216) 20 ≡ Ok 20)
unfolding rounded_up bound_of rows first_row row_of code_for pieces_by padded kept plain_shape plain_by outside count_fault interval_fault words_fault all_zero own_fault value_fault scale_fault room_writing plain_writing record_writing
room_last = (refl, refl, refl, refl, refl)

-- one over 0, with no room at all: 8
no_divisor : record_writing 24 (formula 1 (shape Rational 1 1 0) (pos 0) (pos 0) (padded (pos 16777216 ∷ pos 0 ∷ []))) 0 ≡ refused_by 8
unfolding rounded_up bound bound_of rows first_row row_of code_for pieces_by padded kept plain_shape plain_by outside count_fault interval_fault words_fault all_zero own_fault value_fault scale_fault room_writing plain_writing record_writing
no_divisor = refl

-- blank, with no room at all: 14 comes before 8 and 12, and behind 6. A polynomial's second word helps where it has two, a rational's divisor never
abbrev blank : ℕ → ℕ → Formula
blank n lo = formula 1 (shape Polynomial n 0 0) (pos lo) (pos 0) (padded (pos 0 ∷ pos 1 ∷ []))

blank_refused :
    (record_writing 24 (blank 1 0) 0 ≡ refused_by 14)
    × (record_writing 24 (blank 1 1) 0 ≡ refused_by 6)
    × (record_writing 24 (blank 2 0) 0 ≡ refused_by 12)
    × (record_writing 24 (formula 1 (shape Rational 1 1 0) (pos 0) (pos 0) (padded (pos 0 ∷ pos 1 ∷ []))) 0 ≡ refused_by 14)
    × (record_writing 24 (formula 1 (shape Rational 1 1 0) (pos 0) (pos 0) (padded [])) 0 ≡ refused_by 14)
unfolding rounded_up bound_of rows first_row row_of code_for pieces_by padded kept plain_shape plain_by outside count_fault interval_fault words_fault all_zero own_fault value_fault scale_fault room_writing plain_writing record_writing
blank_refused = (refl, refl, refl, refl, refl)

only_blank : OnlyBlank 24 (blank 1 0)
unfolding rows first_row row_of code_for padded kept plain_shape plain_by outside count_fault interval_fault words_fault all_zero own_fault
only_blank = record { class = refl; scale = record { least = omega arith; most = omega arith }; counts = refl; own = refl; words = refl; blank = refl }
