-- A blank record among others, said of the bytes behind a start, or of a run: what is known of it, and where it is then refused. The binary places are s.
use Rattle.std.specs.Prelude.{ℕ, ◌+◌, ◌≤◌, ◌<◌, ◌≡◌, refl, true, List, [], ◌∷◌, ◌++◌, ◌⊎◌, length, replicate}
use Rattle.std.proofs.Common.{inl, inr, arith, lit≤}
use Rattle.stored.specs.Numbers.{number2, number4}
use Rattle.stored.specs.Words.{words}
use Rattle.formula.specs.Blank.{all_zero, blank_of}
use Rattle.table.specs.declared.Class.TheVariants.{FormulaRecord}
use Rattle.table.specs.Table.{rows, first_row, row_of, pieces_by}
use Rattle.layout.specs.Fields.{row_for, formula_number, first_count, field_of, shape_of, lo_of, hi_of, words_of}
use Rattle.refusal.specs.Guard.{refusal}
use Rattle.faults.specs.Faults.{outside, count_fault, size_fault, length_fault, interval_fault, words_fault, own_fault}
use Rattle.faults.specs.Refusals.{OneOf, record_refusals}
use Rattle.refusal.specs.declared.Refusal.{Refusal}
use Rattle.records.specs.Sheets.{RecordOf, EachFormula, Rising, in_line}
use Rattle.walking.specs.Refused.{next_number}

-- a formula record, of the length that its kind and counts ask for, whose formula is blank
pub record BlankBytes (b : List ℕ) : Type 0 where
  pub one : RecordOf FormulaRecord b
  pub blank : blank_of (shape_of (row_for b) b) (words_of (row_for b) b) ≡ true

-- ---- behind formula records of any numbers and values, and before anything
abbrev pub EachFormulaRecord : List (List ℕ) → Type 0
EachFormulaRecord [] = Unit
EachFormulaRecord (b ∷ bs) = RecordOf FormulaRecord b × EachFormulaRecord bs

pub record BlankBehind (bytes : List ℕ) : Type 0 where
  pub records : List (List ℕ)
  pub blank : List ℕ
  pub after : List ℕ
  pub whole : bytes ≡ in_line records ++ (blank ++ after)
  pub each : EachFormulaRecord records
  pub is : BlankBytes blank

-- a place is that of one of some records, the first of which stands at `at`
abbrev pub AtOneOf : ℕ → List (List ℕ) → ℕ → Type 0
AtOneOf at [] place = ⊥
AtOneOf at (b ∷ bs) place = (place ≡ at) ⊎ AtOneOf (at + length b) bs place

-- behind records from `at` on it is refused at its place, by 14 or by 4, 5 or 6, which come before it; or one of these records is refused
abbrev pub blank_refusals : List ℕ
blank_refusals = 4 ∷ 5 ∷ 6 ∷ 14 ∷ []

abbrev pub BlankOrBefore : ℕ → List (List ℕ) → Refusal → Type 0
BlankOrBefore at records r = ((r.place ≡ at + length (in_line records)) × OneOf blank_refusals r.number) ⊎ (AtOneOf at records r.place × OneOf record_refusals r.number)

-- ---- behind formulas without fault, of which there may be one more, and with a number that may follow them; nothing else is wrong with its
-- interval, its mode and its words. It is then refused by 14 at its place
pub record BlankNext (s most : ℕ) (bytes : List ℕ) : Type 0 where
  pub formulas : List (List ℕ)
  pub blank : List ℕ
  pub after : List ℕ
  pub whole : bytes ≡ in_line formulas ++ (blank ++ after)
  pub room : length formulas < most
  pub each : EachFormula s formulas
  pub rising : Rising 0 formulas
  pub number : next_number 0 formulas ≤ formula_number blank
  pub is : BlankBytes blank
  pub own : own_fault (row_for blank) (shape_of (row_for blank) blank) (lo_of blank) (hi_of blank) ≡ 0
  pub words : words_fault (words_of (row_for blank) blank) ≡ 0

-- ---- worked examples. A polynomial, number 5, of one coefficient, which is zero
abbrev nought : List ℕ
nought = 20 ∷ 0 ∷ 0 ∷ 0 ∷ 0x10 ∷ 0 ∷ 5 ∷ 0 ∷ replicate 12 0

nought_is_blank : BlankBytes nought
unfolding rows first_row row_of number2 number4 words first_count field_of shape_of pieces_by outside count_fault size_fault length_fault all_zero
nought_is_blank = record { one = record { least = lit≤ tt; most = lit≤ tt; says = refl; class = refl; exact = refl }; blank = refl }

-- behind itself, whatever the numbers are; and first of all, with any byte behind it
behind_itself : BlankBehind (nought ++ nought)
behind_itself = record { records = nought ∷ []; blank = nought; after = []; whole = refl; each = (nought_is_blank.one, tt); is = nought_is_blank }

first_of_all : BlankNext 24 1 (nought ++ (7 ∷ []))
unfolding rows first_row row_of number2 number4 words first_count field_of shape_of outside interval_fault own_fault words_fault
first_of_all =
    record { formulas = []; blank = nought; after = 7 ∷ []; whole = refl; room = lit≤ tt; each = tt; rising = tt; number = lit≤ tt; is = nought_is_blank; own = refl; words = refl }

-- behind one of 20 bytes at 8: 14 at 28, or 7 at 8; but not 7 at 28, nor 7 at 9, where no record stands
there_or_before : BlankOrBefore 8 (nought ∷ []) (refusal 28 14) × BlankOrBefore 8 (nought ∷ []) (refusal 8 7)
there_or_before = (inl (refl, inr (inr (inr (inl refl)))), inr (inl refl, inr (inr (inr (inr (inr (inr (inr (inl refl)))))))))

not_seven_there : BlankOrBefore 8 (nought ∷ []) (refusal 28 7) → ⊥
not_seven_there (inl (e, inl f)) = omega (arith, f)
not_seven_there (inl (e, inr (inl f))) = omega (arith, f)
not_seven_there (inl (e, inr (inr (inl f)))) = omega (arith, f)
not_seven_there (inl (e, inr (inr (inr (inl f))))) = omega (arith, f)
not_seven_there (inl (e, inr (inr (inr (inr x))))) = elim x [ ]
not_seven_there (inr (inl e, h)) = omega (arith, e)
not_seven_there (inr (inr x, h)) = elim x [ ]

not_in_a_record : BlankOrBefore 8 (nought ∷ []) (refusal 9 7) → ⊥
not_in_a_record (inl (e, h)) = omega (arith, e)
not_in_a_record (inr (inl e, h)) = omega (arith, e)
not_in_a_record (inr (inr x, h)) = elim x [ ]
