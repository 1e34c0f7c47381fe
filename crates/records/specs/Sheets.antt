-- What a sheet is: one start, exactly count formula records with strictly rising numbers, one end with the same count,
-- and nothing more. Said of the bytes, without the walk, at s binary places.
use Rattle.std.specs.Prelude.{ℕ, ◌+◌, ◌≤◌, ◌≡◌, List, [], ◌∷◌, ◌++◌, ◌⊎◌, length}
use Rattle.word.specs.Words.{Scale}
use Rattle.stored.specs.Numbers.{number4}
use Rattle.table.specs.declared.Class.{Class}
use Rattle.table.specs.declared.Class.TheVariants.{StartRecord, FormulaRecord, EndRecord}
use Rattle.layout.specs.Fields.{row_for, count_of, formula_number}
use Rattle.faults.specs.Faults.{length_fault}
use Rattle.records.specs.Records.{inner_fault}

-- the bytes of one record of a class, as long as they say and as their kind and counts ask for
pub record RecordOf (k : Class) (b : List ℕ) : Type 0 where
  pub least : 8 ≤ length b
  pub most : length b ≤ 120
  pub says : number4 b 0 ≡ length b
  pub class : (row_for b).class ≡ k
  pub exact : length_fault (row_for b) b ≡ 0

-- a formula record without 6, 14, 7 and 8
pub record FormulaBytes (s : ℕ) (b : List ℕ) : Type 0 where
  pub one : RecordOf FormulaRecord b
  pub inner : inner_fault s (row_for b) b ≡ 0

abbrev pub EachFormula : ℕ → List (List ℕ) → Type 0
EachFormula s [] = Unit
EachFormula s (b ∷ bs) = FormulaBytes s b × EachFormula s bs

-- each number above the one before, and the first not below n
abbrev pub Rising : ℕ → List (List ℕ) → Type 0
Rising n [] = Unit
Rising n (b ∷ bs) = (n ≤ formula_number b) × Rising (formula_number b + 1) bs

-- records one behind the other
abbrev pub in_line : List (List ℕ) → List ℕ
in_line [] = []
in_line (b ∷ bs) = b ++ in_line bs

-- one of the records has the number n
abbrev pub Has : ℕ → List (List ℕ) → Type 0
Has n [] = ⊥
Has n (b ∷ bs) = (formula_number b ≡ n) ⊎ Has n bs

-- a sheet of c formulas
pub record SheetOf (s : ℕ) (c : ℕ) (bytes : List ℕ) : Type 0 where
  pub scale : Scale s
  pub start : List ℕ
  pub formulas : List (List ℕ)
  pub finish : List ℕ
  pub whole : bytes ≡ start ++ (in_line formulas ++ finish)
  pub opens : RecordOf StartRecord start × (count_of start ≡ c) × (1 ≤ c) × (c ≤ 64)
  pub many : length formulas ≡ c
  pub each : EachFormula s formulas
  pub rising : Rising 0 formulas
  pub closes : RecordOf EndRecord finish × (count_of finish ≡ c)

-- a run of c formulas, as it stands between a start and an end
pub record RunOf (s : ℕ) (c : ℕ) (bytes : List ℕ) : Type 0 where
  pub formulas : List (List ℕ)
  pub whole : bytes ≡ in_line formulas
  pub many : length formulas ≡ c
  pub most : c ≤ 64
  pub each : EachFormula s formulas
  pub rising : Rising 0 formulas
