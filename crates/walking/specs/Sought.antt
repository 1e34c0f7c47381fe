-- A number that may be asked for, and a place that may be found, as the code keeps them: 65536, which is no number, and 0, where no formula
-- stands, are for none.
use Rattle.std.specs.Prelude.{ℕ, zero, suc, Bool, false, cond, eqb, Option, Some, None}

abbrev pub number_asked : ℕ → Option ℕ
number_asked n = cond (eqb n 65536) None (Some n)

abbrev pub asked_by : Option ℕ → ℕ
asked_by None = 65536
asked_by (Some n) = n

-- the number that is asked for, if one is
abbrev pub is_asked : Option ℕ → ℕ → Bool
is_asked None n = false
is_asked (Some asked) n = eqb n asked

abbrev pub place_found : ℕ → Option ℕ
place_found zero = None
place_found (suc k) = Some (suc k)

abbrev pub found_at : Option ℕ → ℕ
found_at None = 0
found_at (Some k) = k
