-- The exact value that an odd answer is held against, and how far the answer may lie from it, over whole numbers: both times 2^(s(n+1)) for
-- n + 1 coefficients. An even answer is held against the polynomial's exact value at the rounded square, by the polynomial's own sums.
use Rattle.std.specs.Prelude.{◌≡◌, refl, List, [], ◌∷◌, ℕ, suc, ◌+◌, ◌*◌, ◌^◌, ℤ, pos, negsuc, nat_abs, ◌*ℤ◌}
use Rattle.std.proofs.Math.IntN.{pow, one}
use Rattle.word.specs.Rounded.{rounded}
use Rattle.polynomial.specs.Distance.{sum_below, sum_below_ℤ, exact_sum, spread_sum}
use Rattle.odd_even.specs.OddEven.{square_of}

-- x times the polynomial's exact value at the rounded square
abbrev pub odd_exact_sum : ℕ → List ℤ → ℕ → ℤ → ℤ
odd_exact_sum s ws n x = x *ℤ exact_sum s ws n (square_of s x)

-- twice one half, and |x| times twice the polynomial's distance at the rounded square
abbrev pub odd_spread_sum : ℕ → ℕ → ℤ → ℕ
odd_spread_sum s n x = 2 ^ (s * suc n) + nat_abs x * spread_sum s n (square_of s x)

-- ---- worked examples: x·(1 - s/2) at minus a half is -7/16; what two products leave there, one, and none
odd_bend_exact : odd_exact_sum 24 (pos 16777216 ∷ negsuc 8388607 ∷ []) 1 (negsuc 8388607) ≡ negsuc 7340031 *ℤ pos (2 ^ 48)
unfolding rounded sum_below_ℤ pow one
odd_bend_exact = refl

odd_room :
    (odd_spread_sum 24 2 (negsuc 8388607) ≡ 2 ^ 72 + 8388608 * (2 ^ 48 + 4194304 * 2 ^ 24))
    × (odd_spread_sum 24 1 (negsuc 8388607) ≡ 2 ^ 48 + 8388608 * 2 ^ 24)
    × (odd_spread_sum 24 0 (negsuc 8388607) ≡ 2 ^ 24)
unfolding sum_below rounded
odd_room = (refl, refl, refl)
