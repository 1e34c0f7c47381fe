-- The laws of naturals that are rounded to the nearest: the result is the one q with 2·d·q ≤ 2·a + d < 2·d·q + 2·d.
use Rattle.whole.proofs.Basics.{◌≡◌, refl, sym, ℕ, suc, zero, ◌+◌, ◌*◌, ◌/◌, ◌≤◌, ◌<◌, arith}
use native.Mathlib.Nat.{div-add-mod, mod-lt, lt_of_mul-lt-mul_left}
use lib.Ieee.Nearest.{div_same}
use Rattle.word.specs.Rounded.{half_up}

pub half_low : (a d : ℕ) → 0 < d → 2 * (d * half_up a d) ≤ 2 * a + d
half_low a d h = omega (arith, div-add-mod (a + a + d) (d + d))

pub half_high : (a d : ℕ) → 0 < d → 2 * a + d < 2 * (d * half_up a d) + 2 * d
half_high a d h = omega (arith, div-add-mod (a + a + d) (d + d), mod-lt (a + a + d) {m = d + d} (omega arith))

pub half_is : (a d q : ℕ) → 0 < d → 2 * (d * q) ≤ 2 * a + d → 2 * a + d < 2 * (d * q) + 2 * d → half_up a d ≡ q
half_is a d q h f g =
    let x = lt_of_mul-lt-mul_left (2 * d) {m = q} {n = half_up a d + 1} (omega (arith, half_high a d h)) in
    let y = lt_of_mul-lt-mul_left (2 * d) {m = half_up a d} {n = q + 1} (omega (arith, half_low a d h)) in
    omega arith

-- for the function that shifts, and so rounds down: half of the divisor is added first
pub half_shift : (a h d : ℕ) → 0 < d → 2 * h ≡ d → (a + h) / d ≡ half_up a d
half_shift a h d f e = sym (half_is a d ((a + h) / d) f (omega (arith, div-add-mod (a + h) d)) (omega (arith, div-add-mod (a + h) d, mod-lt (a + h) f)))

pub half_zero : (d : ℕ) → half_up 0 d ≡ 0
half_zero zero = refl
half_zero (suc d) = half_is 0 (suc d) 0 (omega arith) (omega arith) (omega arith)

-- it sees only the fraction's value
pub half_same : (a d b c : ℕ) → 0 < d → 0 < c → a * c ≡ b * d → half_up a d ≡ half_up b c
half_same a d b c D C e = div_same (a + a + d) (d + d) (b + b + c) (c + c) (omega arith) (omega arith) (omega arith)
