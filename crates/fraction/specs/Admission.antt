-- Admission of a continued fraction. A is the larger of |lo| and |hi|; `first` and `rest` bound |v1| and the other |v|'s.
use Rattle.std.specs.Prelude.{◌≡◌, refl, List, [], ◌∷◌, ℕ, zero, suc, ◌+◌, ◌-◌, ℤ, pos, negsuc, nat_abs}
use Rattle.word.specs.Rounded.{rounded_up}
use Rattle.word.specs.Words.{bound_product, bound_quotient}
use Rattle.admission.specs.Admission.{admission_number, ranged, apart, Admission, granted}
use Rattle.fraction.specs.Fraction.{b_at, a_after, at, first_of}

-- G is the bound product of |a| and the bound of v, Q the bound quotient of G by L
abbrev pub g_bound : ℕ → ℤ → ℕ → ℕ
g_bound s a v = bound_product s (nat_abs a) v

abbrev pub q_bound : ℕ → ℤ → ℕ → ℕ → ℕ
q_bound s a v L = bound_quotient s (g_bound s a v) L

-- at depth j, L is the least size of what stands there: below 1 gives 8. Then G above M gives 7, |b_(j-1)| + Q above M gives 7,
-- and the next L is |b_(j-1)| - Q (a difference of naturals is 0 where it would be negative: both are below 1).
-- Outermost, at depth 0, nothing is divided by what stands there, so its L is not tested
unfoldable pub admit_from : ℕ → ℕ → ℕ → List ℤ → ℕ → ℕ → Admission
admit_from s first rest ws zero L = granted
admit_from s first rest ws (suc i) L =
    apart L
    (ranged (g_bound s (a_after ws i) (at first rest i))
    (ranged (nat_abs (b_at ws i) + q_bound s (a_after ws i) (at first rest i) L)
    (admit_from s first rest ws i (nat_abs (b_at ws i) - q_bound s (a_after ws i) (at first rest i) L))))

-- innermost: L = |b_k|
abbrev pub admit_inner : ℕ → ℕ → ℕ → List ℤ → ℕ → Admission
admit_inner s first rest ws k = admit_from s first rest ws k (nat_abs (b_at ws k))

-- in modes 1 and 2 first S, the bound product of A with itself: above M gives 7
abbrev pub fraction_admission : ℕ → ℕ → ℕ → List ℤ → ℕ → Admission
fraction_admission s A zero ws k = admit_inner s A A ws k
fraction_admission s A (suc m) ws k =
    ranged (bound_product s A A)
    (admit_inner s (first_of (suc m) A (bound_product s A A)) (bound_product s A A) ws k)

-- ---- worked examples: x/(1 - x/3) up to x = 2, where 1 - 2/3 is still apart from 0; up to 3, where it is not
abbrev thirds : List ℤ
thirds = pos 0 ∷ pos 16777216 ∷ pos 16777216 ∷ negsuc 16777215 ∷ pos 50331648 ∷ []

to_two : admission_number (fraction_admission 24 33554432 0 thirds 2) ≡ 0
unfolding admit_from rounded_up
to_two = refl

to_three : admission_number (fraction_admission 24 50331648 0 thirds 2) ≡ 8
unfolding admit_from rounded_up
to_three = refl

-- the square of 12 is no word, though mode 2 with depth 1 never uses it
square_left : admission_number (fraction_admission 24 201326592 2 (pos 0 ∷ pos 1 ∷ pos 16777216 ∷ []) 1) ≡ 7
unfolding admit_from rounded_up
square_left = refl

-- the product of the inner term of `thirds`, at x = 2: G is 2
inner_product : g_bound 24 (negsuc 16777215) 33554432 ≡ 33554432
unfolding rounded_up
inner_product = refl

-- 7 and 8 as they are met: the square (7) before the innermost L (8); L before G (7); the sum (7) before the next L (8)
abbrev admitted : ℕ → ℕ → List ℤ → ℕ → ℕ
admitted A mode ws k = admission_number (fraction_admission 24 A mode ws k)

in_order :
    (admitted 201326592 2 (pos 0 ∷ pos 1 ∷ pos 0 ∷ []) 1 ≡ 7)
    × (admitted 33554432 0 (pos 0 ∷ pos 2147483647 ∷ pos 0 ∷ []) 1 ≡ 8)
    × (admitted 16777216 0 (pos 0 ∷ pos 0 ∷ pos 0 ∷ pos 16777216 ∷ pos 1 ∷ []) 2 ≡ 7)
unfolding admit_from rounded_up
in_order = (refl, refl, refl)

-- in mode 0 no square is formed, not even of 12
no_square : admitted 201326592 0 (pos 0 ∷ pos 1 ∷ pos 16777216 ∷ []) 1 ≡ 0
unfolding admit_from rounded_up
no_square = refl

-- the bounds of v up to a half: in mode 2 the first is a half and the others a quarter, in mode 1 all are a quarter. L of 1, and of 0
bounds_of_v :
    (admitted 8388608 2 (pos 0 ∷ pos 0 ∷ pos 4194305 ∷ pos 16777216 ∷ pos 16777216 ∷ []) 2 ≡ 0)
    × (admitted 8388608 2 (pos 0 ∷ pos 0 ∷ pos 4194304 ∷ pos 16777216 ∷ pos 16777216 ∷ []) 2 ≡ 8)
    × (admitted 8388608 1 (pos 2143289343 ∷ pos 16777216 ∷ pos 16777216 ∷ []) 1 ≡ 0)
    × (admitted 8388608 2 (pos 2143289343 ∷ pos 16777216 ∷ pos 16777216 ∷ []) 1 ≡ 7)
unfolding admit_from rounded_up
bounds_of_v = (refl, refl, refl, refl)
