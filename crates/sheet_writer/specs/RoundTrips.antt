-- What the two promises speak of, at s binary places: reading undoes writing, and writing undoes reading.
use Rattle.std.specs.Prelude.{ℕ, ◌+◌, ◌-◌, ◌≤◌, ◌≡◌, List, [], ◌∷◌, ◌++◌, ◌⊎◌, length, take, drop, Ok}
use Rattle.formula.specs.declared.Formula.{Formula}
use Rattle.table.specs.Codes.{start_row}
use Rattle.layout.specs.Fields.{formula_number}
use Rattle.sheet.specs.Reader.{formula_count, formula_read, formula_given}
use Rattle.putting.specs.Plain.{Handed, plain}
use Rattle.record_writer.specs.RecordWriter.{record_writing, bytes_of}
use Rattle.sheet_writer.specs.SheetWriter.{added, sheet_writing, sheet_of}

-- each is as code hands it over, and accepted
abbrev pub EachWritten : ℕ → List Formula → Type 0
EachWritten s [] = Unit
EachWritten s (f ∷ fs) = (Handed f × (room : ℕ) × (n : ℕ) × (record_writing s f room ≡ Ok n)) × EachWritten s fs

-- each number above the one before, and the first not below n
abbrev pub Ascending : ℕ → List Formula → Type 0
Ascending n [] = Unit
Ascending n (f ∷ fs) = (n ≤ f.number) × Ascending (f.number + 1) fs

abbrev pub In : {A : Type 0} → A → List A → Type 0
In x [] = ⊥
In x (y ∷ ys) = (x ≡ y) ⊎ In x ys

-- the sheet writer accepts the run of their records, and of that sheet the reader gives each for its number, with the fields
-- that its kind has not at 0
pub record ReadAgain (s : ℕ) (fs : List Formula) (run : List ℕ) : Type 0 where
  pub written : (room : ℕ) → length run + added ≤ room → sheet_writing s run room ≡ Ok (length run + added)
  pub count : formula_count s (sheet_of s run) ≡ Ok (length fs)
  pub each : (f : Formula) → In f fs → formula_read s (sheet_of s run) f.number ≡ Ok (plain f)

-- what stands between a sheet's start and its end
abbrev pub run_of : List ℕ → List ℕ
run_of bytes = take (length bytes - added) (drop start_row.head bytes)

-- the record of a number in a sheet: what the reader gives for the number is written as that record's own bytes
pub record OwnRecord (s : ℕ) (bytes : List ℕ) (n : ℕ) (bs : List (List ℕ)) : Type 0 where
  pub here : List ℕ
  pub one : In here bs
  pub number : formula_number here ≡ n
  pub again : bytes_of (formula_given (formula_read s bytes n)) ≡ here
  pub written : (room : ℕ) → length here ≤ room → record_writing s (formula_given (formula_read s bytes n)) room ≡ Ok (length here)

-- what the reader gives for the number of each of a sheet's records, in their order; and the run of records that the record writer makes of formulas
abbrev pub all_read : ℕ → List ℕ → List (List ℕ) → List Formula
all_read s bytes [] = []
all_read s bytes (b ∷ bs) = (formula_given (formula_read s bytes (formula_number b))) ∷ all_read s bytes bs

abbrev pub run_by : List Formula → List ℕ
run_by [] = []
run_by (f ∷ fs) = bytes_of f ++ run_by fs
