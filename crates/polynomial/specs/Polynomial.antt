-- Polynomials over words. A list holds c0, c1, .. cn. A is the larger of |lo| and |hi|, M the largest word.
use Rattle.std.specs.Prelude.{◌≡◌, refl, cond, List, [], ◌∷◌, ℕ, ◌+◌, ◌<◌, ◌≤◌, ltb, ℤ, pos, nat_abs, ◌+ℤ◌, length, drop, None, Option, Some}
use Rattle.word.specs.Rounded.{rounded, rounded_up}
use Rattle.word.specs.Words.{largest, Word, Scale, product_of, bound_product}
use Rattle.admission.specs.Admission.{admission_number, Admission, granted, range_left}

-- ---- the answer: start with cn; for k from n-1 down to 0 take ck plus the product of the running word and x.
-- Before cn the running word is 0, and so is its product: cn alone gives itself
unfoldable pub horner : ℕ → List ℤ → ℤ → ℤ
horner s [] x = pos 0
horner s (c ∷ cs) x = c +ℤ product_of s (horner s cs x) x

-- the numbers on the way: each rounded product, and each sum
unfoldable pub polynomial_numbers : ℕ → List ℤ → ℤ → List ℤ
polynomial_numbers s [] x = []
polynomial_numbers s (c ∷ cs) x = product_of s (horner s cs x) x ∷ horner s (c ∷ cs) x ∷ polynomial_numbers s cs x

-- ---- admission: B_n = |cn|, B_k = |ck| + bound product of B_(k+1) and A
unfoldable pub bound : ℕ → ℕ → List ℤ → ℕ
bound s A [] = 0
bound s A (c ∷ cs) = nat_abs c + bound_product s (bound s A cs) A

-- the same, given up as soon as a B is above M
abbrev pub bounded : ℕ → Option ℕ
bounded b = cond (ltb largest b) None (Some b)

abbrev pub bound_next : ℕ → ℕ → ℤ → Option ℕ → Option ℕ
bound_next s A c (Some b) = bounded (nat_abs c + bound_product s b A)
bound_next s A c None = None

unfoldable pub bound_of : ℕ → ℕ → List ℤ → Option ℕ
bound_of s A [] = Some 0
bound_of s A (c ∷ cs) = bound_next s A c (bound_of s A cs)

-- any B above M gives refusal 7, else what follows, which may use B_0
abbrev pub when_within : Option ℕ → (ℕ → Admission) → Admission
when_within (Some b) next = next b
when_within None next = range_left

abbrev pub polynomial_admission : ℕ → ℕ → List ℤ → Admission
polynomial_admission s A ws = when_within (bound_of s A ws) (λ b. granted)

-- ---- what the answer asks of its callers: a coefficient or more, and every B in range at |x|
abbrev pub InRange : ℕ → ℕ → List ℤ → Type 0
InRange s A ws = (k : ℕ) → bound s A (drop k ws) ≤ largest

abbrev pub PolynomialReady : ℕ → List ℤ → ℤ → Type 0
PolynomialReady s ws x = Scale s × Word x × (0 < length ws) × InRange s (nat_abs x) ws

-- ---- worked examples. 1 + x + x²/2 at a half: 1 5/8
parabola : horner 24 (pos 16777216 ∷ pos 16777216 ∷ pos 8388608 ∷ []) (pos 8388608) ≡ pos 27262976
unfolding horner rounded
parabola = refl

-- its numbers on the way, from the outermost: 5/8, 1 5/8; 1/4, 1 1/4; the product of nothing, 1/2
parabola_numbers : polynomial_numbers 24 (pos 16777216 ∷ pos 16777216 ∷ pos 8388608 ∷ []) (pos 8388608) ≡ pos 10485760 ∷ pos 27262976 ∷ pos 4194304 ∷ pos 20971520 ∷ pos 0 ∷ pos 8388608 ∷ []
unfolding horner polynomial_numbers rounded
parabola_numbers = refl

-- M plus one step times x: x may be 0, but not one step
not_a_step : admission_number (polynomial_admission 24 1 (pos 2147483647 ∷ pos 1 ∷ [])) ≡ 7
unfolding bound_of rounded_up
not_a_step = refl

only_zero : admission_number (polynomial_admission 24 0 (pos 2147483647 ∷ pos 1 ∷ [])) ≡ 0
unfolding bound_of rounded_up
only_zero = refl
