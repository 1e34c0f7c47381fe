-- A word shown as a double: exactly the word divided by 2^s, zero as plus zero.
use Rattle.std.specs.Prelude.{refl, true, false, ℕ, ℤ, pos, negsuc, nat_abs, T, Float}
use Rattle.std.proofs.Common.{true≢false}
use Rattle.std.specs.Float.{fin, binary64}
use Rattle.std.specs.Float.Ieee.{fits}
use Rattle.std.specs.Float.Ieee.Exact.{HasValue}
use Rattle.word.specs.Words.{unit, below_zero}

-- x is a value that an f64 holds, and it is |w| / 2^s with its sign bit set exactly where w is below 0 (`HasValue x t a c`: x is finite,
-- its sign is t and its size is a / c). So the double of 0 is plus zero. Only one double has both (`exactly_unique` of proofs/Determined.antt).
pub record Exactly (s : ℕ) (w : ℤ) (x : Float) : Type 0 where
  pub held : T (fits binary64 x)
  pub value : HasValue x (below_zero w) (nat_abs w) (unit s)

-- ---- worked examples: one, minus one step and zero; minus zero is not the double of zero; the pattern that is no word is shown too
one : Exactly 24 (pos 16777216) (fin false 1 (pos 0))
unfolding fits
one = record { held = tt; value = (refl, refl) }

minus_a_step : Exactly 24 (negsuc 0) (fin true 1 (negsuc 23))
unfolding fits
minus_a_step = record { held = tt; value = (refl, refl) }

plus_zero_lem : Exactly 24 (pos 0) (fin false 0 (pos 0))
unfolding fits
plus_zero_lem = record { held = tt; value = (refl, refl) }

no_minus_zero : Exactly 24 (pos 0) (fin true 0 (pos 0)) → ⊥
no_minus_zero h = true≢false h.value.0

minus_128 : Exactly 24 (negsuc 2147483647) (fin true 1 (pos 7))
unfolding fits
minus_128 = record { held = tt; value = (refl, refl) }
