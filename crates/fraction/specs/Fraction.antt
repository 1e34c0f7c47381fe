-- Continued fractions b0 + a1·v1/(b1 + a2·v2/(b2 + ..)) over words. The list holds b0, a1, b1, a2, ..: b_i stands at 2i, a_(i+1) at 2i + 1.
use Rattle.std.specs.Prelude.{◌≡◌, refl, List, [], ◌∷◌, ℕ, zero, suc, ◌+◌, ℤ, pos, negsuc, ◌+ℤ◌, get_or}
use Rattle.word.specs.Rounded.{rounded}
use Rattle.word.specs.Words.{product_of, quotient_of}

abbrev pub b_at : List ℤ → ℕ → ℤ
b_at ws i = get_or ws (i + i) (pos 0)

abbrev pub a_after : List ℤ → ℕ → ℤ
a_after ws i = get_or ws (i + i + 1) (pos 0)

-- of v_(i+1): the first one for i = 0, else one of the rest
abbrev pub at : {A : Type 0} → A → A → ℕ → A
at first rest zero = first
at first rest (suc i) = rest

-- v1, and the other v's, of x and its square q. Mode 0: every v is x. Mode 1: every v is q. Mode 2: v1 is x, the others are q
abbrev pub first_of : {A : Type 0} → ℕ → A → A → A
first_of zero x q = x
first_of (suc zero) x q = q
first_of (suc (suc m)) x q = x

abbrev pub rest_of : {A : Type 0} → ℕ → A → A → A
rest_of zero x q = x
rest_of (suc m) x q = q

-- ---- the answer. One step: b plus the quotient of (the product of a and v) by t
abbrev pub next_of : ℕ → ℤ → ℤ → ℤ → ℤ → ℤ
next_of s a b v t = b +ℤ quotient_of s (product_of s a v) t

-- from t at depth j, where j falls by one to 0: t = b_(j-1) plus the quotient of (the product of a_j and v_j) by t
unfoldable pub outward : ℕ → ℤ → ℤ → List ℤ → ℕ → ℤ → ℤ
outward s first rest ws zero t = t
outward s first rest ws (suc i) t = outward s first rest ws i (next_of s (a_after ws i) (b_at ws i) (at first rest i) t)

-- depth k, from the innermost term, t = b_k
abbrev pub fraction_of : ℕ → ℕ → List ℤ → ℕ → ℤ → ℤ
fraction_of s mode ws k x = outward s (first_of mode x (product_of s x x)) (rest_of mode x (product_of s x x)) ws k (b_at ws k)

-- ---- the numbers on the way: each rounded product and quotient and each sum, and the square in modes 1 and 2
unfoldable pub outward_numbers : ℕ → ℤ → ℤ → List ℤ → ℕ → ℤ → List ℤ
outward_numbers s first rest ws zero t = []
outward_numbers s first rest ws (suc i) t =
    product_of s (a_after ws i) (at first rest i)
    ∷ quotient_of s (product_of s (a_after ws i) (at first rest i)) t
    ∷ next_of s (a_after ws i) (b_at ws i) (at first rest i) t
    ∷ outward_numbers s first rest ws i (next_of s (a_after ws i) (b_at ws i) (at first rest i) t)

abbrev pub fraction_numbers : ℕ → ℕ → List ℤ → ℕ → ℤ → List ℤ
fraction_numbers s zero ws k x = outward_numbers s x x ws k (b_at ws k)
fraction_numbers s (suc m) ws k x = product_of s x x ∷ outward_numbers s (first_of (suc m) x (product_of s x x)) (product_of s x x) ws k (b_at ws k)

-- the divisors on the way
unfoldable pub outward_divisors : ℕ → ℤ → ℤ → List ℤ → ℕ → ℤ → List ℤ
outward_divisors s first rest ws zero t = []
outward_divisors s first rest ws (suc i) t = t ∷ outward_divisors s first rest ws i (next_of s (a_after ws i) (b_at ws i) (at first rest i) t)

abbrev pub fraction_divisors : ℕ → ℕ → List ℤ → ℕ → ℤ → List ℤ
fraction_divisors s mode ws k x = outward_divisors s (first_of mode x (product_of s x x)) (rest_of mode x (product_of s x x)) ws k (b_at ws k)

-- ---- worked examples: the tangent's x/(1 - x²/3) at a half, in each mode
abbrev tangent : List ℤ
tangent = pos 0 ∷ pos 16777216 ∷ pos 16777216 ∷ negsuc 16777215 ∷ pos 50331648 ∷ []

mode_2 : fraction_of 24 2 tangent 2 (pos 8388608) ≡ pos 9151209
unfolding outward rounded
mode_2 = refl

-- x/(1 - x/3) is 3/5, and x²/(1 - x²/3) is 3/11
mode_0 : fraction_of 24 0 tangent 2 (pos 8388608) ≡ pos 10066330
unfolding outward rounded
mode_0 = refl

mode_1 : fraction_of 24 1 tangent 2 (pos 8388608) ≡ pos 4575604
unfolding outward rounded
mode_1 = refl

-- the tangent's numbers on the way: the square; then, from the inside, product, quotient and sum of each term; and what is divided by.
-- In mode 0 there is no square
mode_2_numbers : fraction_numbers 24 2 tangent 2 (pos 8388608) ≡ pos 4194304 ∷ negsuc 4194303 ∷ negsuc 1398100 ∷ pos 15379115 ∷ pos 8388608 ∷ pos 9151209 ∷ pos 9151209 ∷ []
unfolding outward_numbers rounded
mode_2_numbers = refl

mode_2_divisors : fraction_divisors 24 2 tangent 2 (pos 8388608) ≡ pos 50331648 ∷ pos 15379115 ∷ []
unfolding outward_divisors rounded
mode_2_divisors = refl

mode_0_numbers : fraction_numbers 24 0 tangent 2 (pos 8388608) ≡ negsuc 8388607 ∷ negsuc 2796202 ∷ pos 13981013 ∷ pos 8388608 ∷ pos 10066330 ∷ pos 10066330 ∷ []
unfolding outward_numbers rounded
mode_0_numbers = refl
