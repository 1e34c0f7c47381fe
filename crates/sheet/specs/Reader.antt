-- What the reader answers, at s binary places: the formula count of a sheet, and the formula of a number.
use Rattle.std.specs.Prelude.{ℕ, ◌≡◌, refl, false, List, [], ◌∷◌, T, replicate, pos, Err, Ok, Result, Option, Some, None}
use Rattle.std.proofs.Common.{subst}
use Rattle.word.specs.Words.{Scale}
use Rattle.stored.specs.Numbers.{number2, number4}
use Rattle.stored.specs.Words.{words}
use Rattle.formula.specs.declared.Kind.TheVariants.{NoFormula}
use Rattle.formula.specs.declared.Formula.{Formula}
use Rattle.formula.specs.Formula.{Sound, admission_of}
use Rattle.formula.specs.Blank.{all_zero, blank_of}
use Rattle.table.specs.Table.{rows, first_row, row_of, pieces_by}
use Rattle.layout.specs.Fields.{bytes_at, Reaches, row_for, first_count, field_of, shape, shape_of, words_of, padded, formula, formula_of, words_in}
use Rattle.faults.specs.Faults.{frame_fault, outside, count_fault, size_fault, length_fault, start_fault, scale_fault, order_fault, end_fault, own_fault, interval_fault, words_fault}
use Rattle.refusal.specs.Guard.{refusal, refused_number}
use Rattle.faults.specs.Refusals.{OneOf, sheet_refusals}
use Rattle.refusal.specs.declared.Refusal.{Refusal}
use Rattle.records.specs.Records.{value_fault}
use Rattle.records.specs.Sheets.{FormulaBytes}
use Rattle.walking.specs.Walking.{record_fault, fault_at, found_by, ending, walk_from, walk_of, Walked}
use Rattle.admission.specs.Admission.{granted}

-- ---- what the reader answers: a count, a place or a formula; or a refusal. The count and the place, 0 where there is a refusal
abbrev pub FormulaCount : Type 0
FormulaCount = Result ℕ Refusal

abbrev pub Place : Type 0
Place = Result ℕ Refusal

abbrev pub Reading : Type 0
Reading = Result Formula Refusal

abbrev pub count_value : FormulaCount → ℕ
count_value (Ok c) = c
count_value (Err r) = 0

abbrev pub place_value : Place → ℕ
place_value (Ok k) = k
place_value (Err r) = 0

-- ---- the count, or a sheet's refusal
abbrev pub count_answer : Walked → FormulaCount
count_answer (Ok w) = Ok w.count
count_answer (Err r) = Err r

unfoldable pub formula_count : ℕ → List ℕ → FormulaCount
formula_count s bytes = count_answer (walk_of s bytes 0 None)

abbrev pub Accepted : ℕ → List ℕ → Type 0
Accepted s bytes = refused_number (formula_count s bytes) ≡ 0

abbrev pub NotAccepted : ℕ → List ℕ → Type 0
NotAccepted s bytes = OneOf sheet_refusals (refused_number (formula_count s bytes))

-- ---- where the formula of a number stands: a sheet's refusals, then 11.
abbrev pub reader_refusals : List ℕ
reader_refusals = 11 ∷ sheet_refusals

abbrev pub place_found : Option ℕ → Place
place_found None = Err (refusal 0 11)
place_found (Some k) = Ok k

abbrev pub place_answer : Walked → Place
place_answer (Ok w) = place_found w.found
place_answer (Err r) = Err r

unfoldable pub formula_place : ℕ → List ℕ → ℕ → Place
formula_place s bytes n = place_answer (walk_of s bytes 0 (Some n))

-- ---- the formula, with the same refusals
unfoldable pub no_formula : Formula
no_formula = formula 0 (shape NoFormula 0 0 0) (pos 0) (pos 0) (padded [])

-- the formula that was read; all zero, and none, where there is a refusal
abbrev pub formula_given : Reading → Formula
formula_given (Ok f) = f
formula_given (Err r) = no_formula

-- there is one
abbrev pub Given : Reading → Type 0
Given r = r ≡ Ok (formula_given r)

-- the formula of a record, by the row of its kind
abbrev pub formula_in : List ℕ → Formula
formula_in b = formula_of (row_for b) b

abbrev pub formula_at : List ℕ → ℕ → Formula
formula_at bytes place = formula_in (bytes_at bytes place)

abbrev pub read_at : List ℕ → Place → Reading
read_at bytes (Ok k) = Ok (formula_at bytes k)
read_at bytes (Err r) = Err r

unfoldable pub formula_read : ℕ → List ℕ → ℕ → Reading
formula_read s bytes n = read_at bytes (formula_place s bytes n)

-- the sheet is accepted and has a formula of the number n
abbrev pub HasFormula : ℕ → List ℕ → ℕ → Type 0
HasFormula s bytes n = refused_number (formula_read s bytes n) ≡ 0

-- ---- a formula that is sound, not blank and admitted
pub record Fit (s : ℕ) (f : Formula) : Type 0 where
  pub sound : Sound f.shape f.lo f.hi (words_in f)
  pub not_blank : blank_of f.shape (words_in f) ≡ false
  pub admitted : admission_of s f.shape f.lo f.hi (words_in f) ≡ granted

-- the formulas of records, none of them blank
abbrev pub NoneBlank : List (List ℕ) → Type 0
NoneBlank [] = Unit
NoneBlank (b ∷ bs) = (blank_of (shape_of (row_for b) b) (words_of (row_for b) b) ≡ false) × NoneBlank bs

-- a formula record without fault stands at a place
pub record FormulaStands (s : ℕ) (bytes : List ℕ) (place : ℕ) : Type 0 where
  pub scale : Scale s
  pub reach : Reaches bytes place
  pub here : FormulaBytes s (bytes_at bytes place)

-- ---- worked examples: empty input; eight zeros; a start alone, the bytes stopping after it; an end first
abbrev start_only : List ℕ
start_only = 8 ∷ 0 ∷ 0 ∷ 0 ∷ 1 ∷ 0 ∷ 1 ∷ 0 ∷ []

abbrev end_only : List ℕ
end_only = 8 ∷ 0 ∷ 0 ∷ 0 ∷ 255 ∷ 255 ∷ 1 ∷ 0 ∷ []

refusals :
    (formula_count 24 [] ≡ Err (refusal 0 1))
    × (formula_count 24 (replicate 8 0) ≡ Err (refusal 0 2))
    × (formula_count 24 start_only ≡ Err (refusal 8 1))
    × (formula_count 24 end_only ≡ Err (refusal 0 3))
unfolding formula_count walk_of walk_from fault_at frame_fault bytes_at record_fault length_fault size_fault count_fault outside start_fault scale_fault number2 number4 rows first_row row_of first_count field_of shape_of pieces_by
refusals = (refl, refl, refl, refl)

-- a start at 15 to 29 places: 6 outside 16 to 28
by_scale :
    (formula_count 15 start_only ≡ Err (refusal 0 6))
    × (formula_count 16 start_only ≡ Err (refusal 8 1))
    × (formula_count 28 start_only ≡ Err (refusal 8 1))
    × (formula_count 29 start_only ≡ Err (refusal 0 6))
unfolding formula_count walk_of walk_from fault_at frame_fault bytes_at record_fault length_fault size_fault count_fault outside start_fault scale_fault number2 number4 rows first_row row_of first_count field_of shape_of pieces_by
by_scale = (refl, refl, refl, refl)

-- a sheet of one root over 0 to 1 step: its count, its formula's place, and a number that it has not. Its number may be 0
abbrev one_root : ℕ → List ℕ
one_root number =
    8 ∷ 0 ∷ 0 ∷ 0 ∷ 1 ∷ 0 ∷ 1 ∷ 0
    ∷ 16 ∷ 0 ∷ 0 ∷ 0 ∷ 19 ∷ 0 ∷ number ∷ 0 ∷ 0 ∷ 0 ∷ 0 ∷ 0 ∷ 1 ∷ 0 ∷ 0 ∷ 0
    ∷ 8 ∷ 0 ∷ 0 ∷ 0 ∷ 255 ∷ 255 ∷ 1 ∷ 0 ∷ []

one_root_lem :
    (formula_count 24 (one_root 5) ≡ Ok 1)
    × (formula_place 24 (one_root 5) 5 ≡ Ok 8)
    × (place_value (formula_place 24 (one_root 5) 5) ≡ 8)
    × (formula_place 24 (one_root 5) 6 ≡ Err (refusal 0 11))
    × (formula_place 24 (one_root 0) 0 ≡ Ok 8)
    × (place_value (Err (refusal 0 11)) ≡ 0)
unfolding formula_count formula_place walk_of walk_from fault_at found_by ending frame_fault bytes_at record_fault length_fault size_fault count_fault outside start_fault scale_fault order_fault end_fault value_fault own_fault interval_fault words_fault number2 number4 words rows first_row row_of first_count field_of shape_of pieces_by
one_root_lem = (refl, refl, refl, refl, refl, refl)

-- a formula that is not given is no formula, and all zero
nothing_given : no_formula ≡ formula 0 (shape NoFormula 0 0 0) (pos 0) (pos 0) (replicate 32 (pos 0))
unfolding no_formula padded
nothing_given = refl

-- a sheet of one polynomial over 0 to 1 step, of two coefficients, both zero: 14 at its place
abbrev one_blank : List ℕ
one_blank =
    8 ∷ 0 ∷ 0 ∷ 0 ∷ 1 ∷ 0 ∷ 1 ∷ 0
    ∷ 24 ∷ 0 ∷ 0 ∷ 0 ∷ 16 ∷ 0 ∷ 5 ∷ 0 ∷ 0 ∷ 0 ∷ 0 ∷ 0 ∷ 1 ∷ 0 ∷ 0 ∷ 0 ∷ 0 ∷ 0 ∷ 0 ∷ 0 ∷ 0 ∷ 0 ∷ 0 ∷ 0
    ∷ 8 ∷ 0 ∷ 0 ∷ 0 ∷ 255 ∷ 255 ∷ 1 ∷ 0 ∷ []

one_blank_lem : (formula_count 24 one_blank ≡ Err (refusal 8 14)) × (formula_place 24 one_blank 5 ≡ Err (refusal 8 14)) × (formula_place 24 one_blank 6 ≡ Err (refusal 8 14))
unfolding formula_count formula_place walk_of walk_from fault_at frame_fault bytes_at record_fault length_fault size_fault count_fault outside start_fault scale_fault order_fault value_fault own_fault interval_fault words_fault all_zero number2 number4 words rows first_row row_of first_count field_of shape_of pieces_by
one_blank_lem = (refl, refl, refl)

-- a blank formula does not fit; and of a root and a blank record it is not so that none is blank
blank_does_not_fit : Fit 24 (formula_at one_blank 8) → ⊥
unfolding number2 number4 words rows first_row row_of first_count field_of shape_of padded formula_of bytes_at all_zero
blank_does_not_fit f = subst T f.not_blank tt

root_and_blank : NoneBlank (bytes_at (one_root 5) 8 ∷ bytes_at one_blank 8 ∷ []) → ⊥
unfolding number2 number4 words rows first_row row_of first_count field_of shape_of bytes_at all_zero
root_and_blank h = subst T h.1.0 tt
