-- What a refusal's place says of a sheet's bytes, apart from the walk: all that stands before it is without fault, and what stands at it
-- is not; for 9, a whole sheet ends there. The binary places are s.
use Rattle.std.specs.Prelude.{ℕ, ◌+◌, ◌≤◌, ◌<◌, ◌≡◌, List, [], ◌∷◌, ◌++◌, ◌⊎◌, length, None}
use Rattle.word.specs.Words.{Scale}
use Rattle.table.specs.declared.Class.TheVariants.{StartRecord}
use Rattle.layout.specs.Fields.{count_of, formula_number}
use Rattle.refusal.specs.Guard.{refusal}
use Rattle.records.specs.Sheets.{RecordOf, EachFormula, Rising, in_line, SheetOf}
use Rattle.refusal.specs.declared.Refusal.{Refusal}
use Rattle.walking.specs.Walking.{walk, fault_at}

-- the least number that may stand behind formulas of which the first may have n
abbrev pub next_number : ℕ → List (List ℕ) → ℕ
next_number n [] = n
next_number n (b ∷ bs) = next_number (formula_number b + 1) bs

-- the first fault of what stands at a place, behind `seen` formulas of `count`, with numbers from `next` on
abbrev pub fault_there : ℕ → List ℕ → ℕ → ℕ → ℕ → ℕ → ℕ
fault_there s bytes place count seen next = fault_at s bytes 0 (walk place count seen next None None)

-- the first record is at fault
pub record AtTheStart (s : ℕ) (bytes : List ℕ) (r : Refusal) : Type 0 where
  pub place : r.place ≡ 0
  pub fault : fault_there s bytes 0 0 0 0 ≡ r.number
  pub some : r.number ≡ 0 → ⊥

-- a later one is: before it stand a start and formulas without fault, rising and not too many
pub record BehindFormulas (s : ℕ) (bytes : List ℕ) (r : Refusal) : Type 0 where
  pub start : List ℕ
  pub formulas : List (List ℕ)
  pub after : List ℕ
  pub whole : bytes ≡ start ++ (in_line formulas ++ after)
  pub scale : Scale s
  pub opens : RecordOf StartRecord start × (1 ≤ count_of start) × (count_of start ≤ 64)
  pub room : length formulas ≤ count_of start
  pub each : EachFormula s formulas
  pub rising : Rising 0 formulas
  pub place : r.place ≡ length start + length (in_line formulas)
  pub fault : fault_there s bytes r.place (count_of start) (length formulas) (next_number 0 formulas) ≡ r.number
  pub some : r.number ≡ 0 → ⊥

-- 9: a whole sheet, with bytes behind it
pub record BehindTheEnd (s : ℕ) (bytes : List ℕ) (r : Refusal) : Type 0 where
  pub count : ℕ
  pub sheet : List ℕ
  pub after : List ℕ
  pub whole : bytes ≡ sheet ++ after
  pub shape : SheetOf s count sheet
  pub more : 0 < length after
  pub nine : r ≡ refusal (length sheet) 9

abbrev pub RefusedAt : ℕ → List ℕ → Refusal → Type 0
RefusedAt s bytes r = AtTheStart s bytes r ⊎ (BehindFormulas s bytes r ⊎ BehindTheEnd s bytes r)
