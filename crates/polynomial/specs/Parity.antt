-- Odd and even polynomials, by what is stored. A list holds c0, c1, .. cn.
use Rattle.std.specs.Prelude.{◌≡◌, refl, List, [], ◌∷◌, ℕ, zero, suc, ◌+◌, ℤ, pos, nat_abs, get_or}
use Rattle.std.proofs.Common.{ap, arith}

-- every even coefficient is 0: c0, c2, c4 ..
abbrev pub OddPowers : List ℤ → Type 0
OddPowers ws = (k : ℕ) → get_or ws (k + k) (pos 0) ≡ pos 0

-- every odd coefficient is 0: c1, c3, c5 ..
abbrev pub EvenPowers : List ℤ → Type 0
EvenPowers ws = (k : ℕ) → get_or ws (k + k + 1) (pos 0) ≡ pos 0

-- ---- worked examples. What is not odd: 1 + x, x + x²; and what is: x + x³
with_one : OddPowers (pos 1 ∷ pos 1 ∷ []) → ⊥
with_one f = omega (arith, ap nat_abs (f 0))

with_a_square : OddPowers (pos 0 ∷ pos 1 ∷ pos 1 ∷ []) → ⊥
with_a_square f = omega (arith, ap nat_abs (f 1))

abbrev pub cubic : List ℤ
cubic = pos 0 ∷ pos 1 ∷ pos 0 ∷ pos 1 ∷ []

pub cubic_is_odd : OddPowers cubic
cubic_is_odd zero = refl
cubic_is_odd (suc zero) = refl
cubic_is_odd (suc (suc k)) = let e : suc (suc k) + suc (suc k) ≡ suc (suc (suc (suc (k + k)))) = omega arith in ap (λ (i : ℕ). get_or cubic i (pos 0)) e

-- zeros alone are odd, and even
zero_is_odd : OddPowers (pos 0 ∷ [])
zero_is_odd zero = refl
zero_is_odd (suc k) = let e : suc k + suc k ≡ suc (suc (k + k)) = omega arith in ap (λ (i : ℕ). get_or (pos 0 ∷ []) i (pos 0)) e

zeros_are_even : EvenPowers (pos 0 ∷ pos 0 ∷ [])
zeros_are_even zero = refl
zeros_are_even (suc k) = let e : suc k + suc k + 1 ≡ suc (suc (suc (k + k))) = omega arith in ap (λ (i : ℕ). get_or (pos 0 ∷ pos 0 ∷ []) i (pos 0)) e

-- what is not even: 1 + x, 1 + x³; and what is: 1 + x²
with_x : EvenPowers (pos 1 ∷ pos 1 ∷ []) → ⊥
with_x f = omega (arith, ap nat_abs (f 0))

with_a_cube : EvenPowers (pos 1 ∷ pos 0 ∷ pos 0 ∷ pos 1 ∷ []) → ⊥
with_a_cube f = omega (arith, ap nat_abs (f 1))

abbrev pub square : List ℤ
square = pos 1 ∷ pos 0 ∷ pos 1 ∷ []

pub square_is_even : EvenPowers square
square_is_even zero = refl
square_is_even (suc k) = let e : suc k + suc k + 1 ≡ suc (suc (suc (k + k))) = omega arith in ap (λ (i : ℕ). get_or square i (pos 0)) e
