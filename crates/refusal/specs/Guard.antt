-- A fault's number, a refusal, and refusals in order: a number, or 0 for none, stands in front of all that comes after it.
use Rattle.std.specs.Prelude.{ℕ, ◌≡◌, refl, cond, eqb, Result, Ok, Err, ⊤}
use Rattle.refusal.specs.Told.{Told}
use Rattle.refusal.specs.declared.Fault.{Fault}
use Rattle.refusal.specs.declared.Fault.TheVariants.{BrokenOff, Length, Kind, Count, Order, Value, RangeLeft, DivisorZero, Surplus, Outside, Absent, NoRoom, NotFinite, Blank, NoSine}

-- the paper's number of each fault
abbrev pub number_of : Fault → ℕ
number_of BrokenOff = 1
number_of Length = 2
number_of Kind = 3
number_of Count = 4
number_of Order = 5
number_of Value = 6
number_of RangeLeft = 7
number_of DivisorZero = 8
number_of Surplus = 9
number_of Outside = 10
number_of Absent = 11
number_of NoRoom = 12
number_of NotFinite = 13
number_of Blank = 14
number_of NoSine = 15

-- the number of what a check found, 0 for nothing
abbrev pub numbered : Result ⊤ Fault → ℕ
numbered (Ok none) = 0
numbered (Err fault) = number_of fault

-- the paper's number, and the place of the byte that it names
abbrev pub refusal : ℕ → ℕ → Told
refusal place number = record { number = number; place = place }

-- an answer's refusal: the paper's number and the place, 0 where there is none
abbrev pub refused_number : {A : Type 0} → Result A Told → ℕ
refused_number (Ok a) = 0
refused_number (Err r) = r.number

abbrev pub refused_place : {A : Type 0} → Result A Told → ℕ
refused_place (Ok a) = 0
refused_place (Err r) = r.place

-- on to `ok`, unless there is a fault
abbrev pub guard : {A : Type 0} → ℕ → (ℕ → A) → A → A
guard fault bad ok = cond (eqb fault 0) ok (bad fault)

-- the first fault of two
abbrev pub or_else : ℕ → ℕ → ℕ
or_else first second = guard first (λ fault. fault) second
