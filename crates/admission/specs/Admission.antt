-- The two refusals of admission. A chain of `ranged` and `apart` gives the first that it meets.
use Rattle.std.specs.Prelude.{◌≡◌, refl, cond, List, ℕ, ltb, ℤ, Err, Ok, Result, ⊤}
use Rattle.word.specs.Words.{largest}
use Rattle.word.specs.Lists.{Words}
use Rattle.admission.specs.declared.NotAdmitted.TheVariants.{RangeLeft, DivisorZero}
use Rattle.admission.specs.declared.NotAdmitted.{NotAdmitted}

-- what admission answers: nothing, or 7 or 8
abbrev pub Admission : Type 0
Admission = Result ⊤ NotAdmitted

abbrev pub granted : Admission
granted = Ok tt

abbrev pub range_left : Admission
range_left = Err RangeLeft

abbrev pub divisor_zero : Admission
divisor_zero = Err DivisorZero

-- the paper's number of an answer, 0 for none
abbrev pub admission_number : Admission → ℕ
admission_number (Ok none) = 0
admission_number (Err RangeLeft) = 7
admission_number (Err DivisorZero) = 8

-- refusal 7 where a bound n is above M, else what follows
abbrev pub ranged : ℕ → Admission → Admission
ranged n next = cond (ltb largest n) range_left next

-- refusal 8 where l, the least size of a divisor, is below 1, else what follows
abbrev pub apart : ℕ → Admission → Admission
apart l next = cond (ltb l 1) divisor_zero next

-- what a walk over stored numbers has found, some of which may be no words: it admits words alone, and of words it says what
-- admission says
pub record Judged (ws : List ℤ) (admission found : Admission) : Type 0 where
  pub words : found ≡ granted → Words ws
  pub same : Words ws → found ≡ admission

-- ---- worked examples: M is in range, one more is not; a divisor of one step is apart from 0
at_the_limit : admission_number (ranged 2147483647 granted) ≡ 0
at_the_limit = refl

above_the_limit : admission_number (ranged 2147483648 (apart 0 granted)) ≡ 7
above_the_limit = refl

a_step_apart : admission_number (apart 1 granted) ≡ 0
a_step_apart = refl

not_apart : admission_number (apart 0 (ranged 2147483648 granted)) ≡ 8
not_apart = refl
