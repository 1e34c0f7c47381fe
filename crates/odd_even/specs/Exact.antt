-- The marks of even and odd answers: exact where no product on the way was rounded, that of x with itself among them where the polynomial uses it.
use Rattle.std.specs.Prelude.{◌≡◌, refl, Bool, true, false, ◌&&◌, List, [], ◌∷◌, ℕ, ◌+◌, ◌*◌, ◌^◌, ltb, ℤ, pos, negsuc, ◌*ℤ◌, length}
use Rattle.std.proofs.Math.IntN.{pow, one}
use Rattle.word.specs.Rounded.{rounded}
use Rattle.word.specs.Exact.{exact_product, square_exact}
use Rattle.polynomial.specs.Polynomial.{horner}
use Rattle.polynomial.specs.Exact.{polynomial_exact}
use Rattle.polynomial.specs.Distance.{sum_below_ℤ, exact_sum}
use Rattle.odd_even.specs.OddEven.{square_of, even_of}

-- the square is used from two coefficients on: by the rule's shape, whatever the coefficients are. With one the polynomial is c0
abbrev pub even_exact : ℕ → List ℤ → ℤ → Bool
even_exact s ws x = square_exact (ltb 1 (length ws)) s x && polynomial_exact s ws (square_of s x)

abbrev pub odd_exact : ℕ → List ℤ → ℤ → Bool
odd_exact s ws x = even_exact s ws x && exact_product s (even_of s ws x) x

-- ---- the exact values of c0 + c1·x² + .. + cn·x^(2n), and of x times that, in whole numbers: the first times 2^(2s·n), the second times
-- 2^(2s·n)·2^s. x·x is the square of x at twice the places
abbrev pub even_value : ℕ → List ℤ → ℕ → ℤ → ℤ
even_value s ws n x = exact_sum (s + s) ws n (x *ℤ x)

abbrev pub odd_value : ℕ → List ℤ → ℕ → ℤ → ℤ
odd_value s ws n x = x *ℤ even_value s ws n x

-- ---- worked examples. 1 - q/2 for the square q: at a half and minus a half nothing is rounded. At one step the square is; at 2^14 steps it is 16 steps,
-- of which a half is eight, and odd's last product is rounded
abbrev bend : List ℤ
bend = pos 16777216 ∷ negsuc 8388607 ∷ []

even_marks :
    (even_exact 24 bend (pos 8388608) ≡ true)
    × (even_exact 24 bend (negsuc 8388607) ≡ true)
    × (even_exact 24 bend (pos 1) ≡ false)
    × (even_exact 24 bend (pos 16384) ≡ true)
unfolding polynomial_exact horner rounded
even_marks = (refl, refl, refl, refl)

odd_marks : (odd_exact 24 bend (pos 8388608) ≡ true) × (odd_exact 24 bend (negsuc 8388607) ≡ true) × (odd_exact 24 bend (pos 1) ≡ false) × (odd_exact 24 bend (pos 16384) ≡ false)
unfolding polynomial_exact horner rounded
odd_marks = (refl, refl, refl, refl)

-- the walk's own product: the square of 4,096 steps is one step, and half of that is rounded
own_product : (even_exact 24 (pos 0 ∷ pos 8388608 ∷ []) (pos 4096) ≡ false) × (odd_exact 24 (pos 0 ∷ pos 8388608 ∷ []) (pos 4096) ≡ false)
unfolding polynomial_exact horner rounded
own_product = (refl, refl)

-- one step, whose square is rounded: one coefficient does not use it; odd's last product counts all the same, here half a step. Two use it, be the second 0
-- or both
square_unused : (even_exact 24 (pos 16777216 ∷ []) (pos 1) ≡ true) × (odd_exact 24 (pos 16777216 ∷ []) (pos 1) ≡ true) × (odd_exact 24 (pos 8388608 ∷ []) (pos 1) ≡ false)
unfolding polynomial_exact horner rounded
square_unused = (refl, refl, refl)

square_used_lem :
    (even_exact 24 (pos 16777216 ∷ pos 0 ∷ []) (pos 1) ≡ false)
    × (odd_exact 24 (pos 16777216 ∷ pos 0 ∷ []) (pos 1) ≡ false)
    × (even_exact 24 (pos 0 ∷ pos 0 ∷ []) (pos 1) ≡ false)
unfolding polynomial_exact horner rounded
square_used_lem = (refl, refl, refl)

-- at 16 places the square of 256 steps is one step, at 24 it is rounded
at_other_places : (even_exact 16 (pos 0 ∷ pos 65536 ∷ []) (pos 256) ≡ true) × (even_exact 24 (pos 0 ∷ pos 65536 ∷ []) (pos 256) ≡ false)
unfolding polynomial_exact horner rounded
at_other_places = (refl, refl)

-- 1 - x²/2 and x·(1 - x²/2) at minus a half are 7/8 and -7/16
bend_values :
    (even_value 24 bend 1 (negsuc 8388607) ≡ pos (14680064 * 2 ^ 48))
    × (odd_value 24 bend 1 (negsuc 8388607) ≡ negsuc 7340031 *ℤ pos (2 ^ 72))
unfolding sum_below_ℤ pow one
bend_values = (refl, refl)
