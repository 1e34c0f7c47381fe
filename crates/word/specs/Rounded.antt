-- Rounding: one rule for products, quotients and doubles, and one for bounds.
use Rattle.std.specs.Prelude.{◌≡◌, refl, ℕ, suc, ◌+◌, ◌-◌, ◌/◌, ℤ, pos, negsuc, neg_ℤ}

-- a / d to the nearest whole number, of naturals, a tie upward: a / d + 1/2, which is 2·a + d by 2·d, rounded down
abbrev pub half_up : ℕ → ℕ → ℕ
half_up a d = (a + a + d) / (d + d)

-- m / d to the nearest whole number, a tie away from zero: m's size is rounded, and m's sign put back. Nothing else decides where a tie goes.
-- Files above this crate use the laws of proofs/RoundedLaws.antt, not this text; only tables of worked cases compute with it.
unfoldable pub rounded : ℤ → ℕ → ℤ
rounded (pos a) d = pos (half_up a d)
rounded (negsuc a) d = neg_ℤ (pos (half_up (suc a) d))

-- a / d rounded up, for bounds
unfoldable pub rounded_up : ℕ → ℕ → ℕ
rounded_up a d = (a + (d - 1)) / d

-- ---- worked examples. Ties: ±1/2 and ±3/2; and 5/2, which gives 3, not the even 2
ties : (rounded (pos 1) 2 ≡ pos 1) × (rounded (negsuc 0) 2 ≡ negsuc 0) × (rounded (pos 3) 2 ≡ pos 2) × (rounded (negsuc 2) 2 ≡ negsuc 1) × (rounded (pos 5) 2 ≡ pos 3)
unfolding rounded
ties = (refl, refl, refl, refl, refl)

-- everything else goes to the nearest: ±5/4 gives ±1, ±7/4 gives ±2; by a divisor that is odd, ±4/3 gives ±1, ±5/3 gives ±2
nearest :
    (rounded (pos 5) 4 ≡ pos 1)
    × (rounded (negsuc 4) 4 ≡ negsuc 0)
    × (rounded (pos 7) 4 ≡ pos 2)
    × (rounded (negsuc 6) 4 ≡ negsuc 1)
    × (rounded (pos 4) 3 ≡ pos 1)
    × (rounded (negsuc 3) 3 ≡ negsuc 0)
    × (rounded (pos 5) 3 ≡ pos 2)
    × (rounded (negsuc 4) 3 ≡ negsuc 1)
unfolding rounded
nearest = (refl, refl, refl, refl, refl, refl, refl, refl)

-- 8 / 4 and 9 / 4, rounded up
up : (rounded_up 8 4 ≡ 2) × (rounded_up 9 4 ≡ 3)
unfolding rounded_up
up = (refl, refl)
