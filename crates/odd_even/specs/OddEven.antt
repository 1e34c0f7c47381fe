-- The kinds `even` and `odd` over words at s binary places; the s of the request is `square_of s x`. A list holds c0, c1, .. cn, as a polynomial's
-- does. A is the larger of |lo| and |hi|, M the largest word.
use Rattle.std.specs.Prelude.{◌≡◌, refl, cond, List, [], ◌∷◌, ℕ, ltb, ℤ, pos, negsuc, None, Option}
use Rattle.word.specs.Rounded.{rounded, rounded_up}
use Rattle.word.specs.Words.{largest, Word, product_of, bound_product}
use Rattle.admission.specs.Admission.{admission_number, ranged, Admission, granted}
use Rattle.polynomial.specs.Polynomial.{horner, polynomial_numbers, bound_of, when_within, PolynomialReady}

-- ---- the answers. The product of x with itself; even is the polynomial at it, odd the product of that word and x
abbrev pub square_of : ℕ → ℤ → ℤ
square_of s x = product_of s x x

abbrev pub even_of : ℕ → List ℤ → ℤ → ℤ
even_of s ws x = horner s ws (square_of s x)

abbrev pub odd_of : ℕ → List ℤ → ℤ → ℤ
odd_of s ws x = product_of s (even_of s ws x) x

-- the numbers on the way: the square, and the polynomial's own; of odd the last product besides
abbrev pub even_numbers : ℕ → List ℤ → ℤ → List ℤ
even_numbers s ws x = square_of s x ∷ polynomial_numbers s ws (square_of s x)

abbrev pub odd_numbers : ℕ → List ℤ → ℤ → List ℤ
odd_numbers s ws x = odd_of s ws x ∷ even_numbers s ws x

-- ---- admission: S, the bound product of A with itself, above M gives 7; then the polynomial's bounds with S in place of A
abbrev pub bound_at_square : ℕ → ℕ → List ℤ → Option ℕ
bound_at_square s A ws = cond (ltb largest (bound_product s A A)) None (bound_of s (bound_product s A A) ws)

abbrev pub even_admission : ℕ → ℕ → List ℤ → Admission
even_admission s A ws = when_within (bound_at_square s A ws) (λ b. granted)

-- then for odd the bound product of B_0 and A, above M giving 7
abbrev pub odd_admission : ℕ → ℕ → List ℤ → Admission
odd_admission s A ws = when_within (bound_at_square s A ws) (λ b. ranged (bound_product s b A) granted)

-- ---- what the answers ask of their callers: the polynomial is ready at the square, which is a word; of odd, the answer is a word
abbrev pub EvenReady : ℕ → List ℤ → ℤ → Type 0
EvenReady s ws x = Word x × PolynomialReady s ws (square_of s x)

abbrev pub OddReady : ℕ → List ℤ → ℤ → Type 0
OddReady s ws x = EvenReady s ws x × Word (odd_of s ws x)

-- ---- worked examples. 1 - q/2 for the square q, at a half and at minus a half: q is 1/4, even gives 7/8, odd 7/16 and its negation
abbrev bend : List ℤ
bend = pos 16777216 ∷ negsuc 8388607 ∷ []

even_bend : (even_of 24 bend (pos 8388608) ≡ pos 14680064) × (even_of 24 bend (negsuc 8388607) ≡ pos 14680064)
unfolding horner rounded
even_bend = (refl, refl)

odd_bend : (odd_of 24 bend (pos 8388608) ≡ pos 7340032) × (odd_of 24 bend (negsuc 8388607) ≡ negsuc 7340031)
unfolding horner rounded
odd_bend = (refl, refl)

-- the square is rounded before it is used: that of 2897 steps is over half a step, that of 2896 is under it. That of -3 is 9
rounded_square : (square_of 24 (pos 2897) ≡ pos 1) × (square_of 24 (pos 2896) ≡ pos 0) × (square_of 24 (negsuc 50331647) ≡ pos 150994944)
unfolding rounded
rounded_square = (refl, refl, refl)

-- the walk goes by the rounded square, and x comes last: two of 2897 steps' square are two steps, not one; one step and four of q at a half are two,
-- and half of that is one
by_the_rounded_square : (even_of 24 (pos 0 ∷ pos 33554432 ∷ []) (pos 2897) ≡ pos 2) × (odd_of 24 (pos 1 ∷ pos 4 ∷ []) (pos 8388608) ≡ pos 1)
unfolding horner rounded
by_the_rounded_square = (refl, refl)

-- one coefficient: one as an odd formula is x, as an even one it is one everywhere
one_coefficient : (odd_of 24 (pos 16777216 ∷ []) (negsuc 8388607) ≡ negsuc 8388607) × (even_of 24 (pos 16777216 ∷ []) (negsuc 8388607) ≡ pos 16777216)
unfolding horner rounded
one_coefficient = (refl, refl)

-- the numbers on the way at a half: the square 1/4; -1/8, 7/8; the product of nothing, -1/2; of odd 7/16 before them
bend_numbers :
    (even_numbers 24 bend (pos 8388608) ≡ pos 4194304 ∷ negsuc 2097151 ∷ pos 14680064 ∷ pos 0 ∷ negsuc 8388607 ∷ [])
    × (odd_numbers 24 bend (pos 8388608) ≡ pos 7340032 ∷ pos 4194304 ∷ negsuc 2097151 ∷ pos 14680064 ∷ pos 0 ∷ negsuc 8388607 ∷ [])
unfolding horner polynomial_numbers rounded
bend_numbers = (refl, refl)

-- the refusal at 24 places, 0 for none
abbrev even_refusal : ℕ → List ℤ → ℕ
even_refusal A ws = admission_number (even_admission 24 A ws)

abbrev odd_refusal : ℕ → List ℤ → ℕ
odd_refusal A ws = admission_number (odd_admission 24 A ws)

-- S itself, though one coefficient never uses it: the largest A whose S is a word, and the next. At 17 places the next is M + 1. S is M for no A at
-- 16 to 28 places, but the rule is said of every number of places: at 31 it is for A = M
square_at_the_limit :
    (even_refusal 189812531 (pos 0 ∷ []) ≡ 0)
    × (odd_refusal 189812531 (pos 0 ∷ []) ≡ 0)
    × (even_refusal 189812532 (pos 0 ∷ []) ≡ 7)
    × (odd_refusal 189812532 (pos 0 ∷ []) ≡ 7)
    × (admission_number (even_admission 17 16777215 (pos 0 ∷ [])) ≡ 0)
    × (admission_number (even_admission 17 16777216 (pos 0 ∷ [])) ≡ 7)
    × (admission_number (even_admission 31 2147483647 (pos 0 ∷ [])) ≡ 0)
unfolding bound_of rounded_up
square_at_the_limit = (refl, refl, refl, refl, refl, refl, refl)

-- S in place of A: up to a half, c0 + q is at most c0 and a quarter, which may be M and no more; up to two it is c0 and four. Up to one step S is
-- rounded up to a step. B_1 is held to M too, though B_0 would fit
bounds_at_the_square :
    (even_refusal 8388608 (pos 2143289343 ∷ pos 16777216 ∷ []) ≡ 0)
    × (even_refusal 8388608 (pos 2143289344 ∷ pos 16777216 ∷ []) ≡ 7)
    × (odd_refusal 8388608 (pos 2143289343 ∷ pos 16777216 ∷ []) ≡ 0)
    × (odd_refusal 8388608 (pos 2143289344 ∷ pos 16777216 ∷ []) ≡ 7)
    × (even_refusal 33554432 (pos 2080374783 ∷ pos 16777216 ∷ []) ≡ 0)
    × (even_refusal 33554432 (pos 2080374784 ∷ pos 16777216 ∷ []) ≡ 7)
    × (even_refusal 1 (pos 2147483646 ∷ pos 16777216 ∷ []) ≡ 0)
    × (even_refusal 1 (pos 2147483647 ∷ pos 16777216 ∷ []) ≡ 7)
    × (even_refusal 8388608 (pos 0 ∷ pos 2147483647 ∷ pos 0 ∷ []) ≡ 0)
    × (even_refusal 8388608 (pos 0 ∷ pos 2147483647 ∷ pos 4 ∷ []) ≡ 7)
unfolding bound_of rounded_up
bounds_at_the_square = (refl, refl, refl, refl, refl, refl, refl, refl, refl, refl)

-- the last product of odd, up to one and up to two: B_0, and twice B_0, are M at most, where B_0 is c0, or four times c1. It is rounded up: nine
-- eighths of 1908874353 are M and an eighth. Even forms no such product
last_product :
    (odd_refusal 16777216 (pos 2147483647 ∷ []) ≡ 0)
    × (odd_refusal 33554432 (pos 1073741823 ∷ []) ≡ 0)
    × (odd_refusal 33554432 (pos 1073741824 ∷ []) ≡ 7)
    × (odd_refusal 33554432 (pos 0 ∷ pos 268435455 ∷ []) ≡ 0)
    × (odd_refusal 33554432 (pos 0 ∷ pos 268435456 ∷ []) ≡ 7)
    × (odd_refusal 18874368 (pos 1908874352 ∷ []) ≡ 0)
    × (odd_refusal 18874368 (pos 1908874353 ∷ []) ≡ 7)
    × (even_refusal 33554432 (pos 1073741824 ∷ []) ≡ 0)
unfolding bound_of rounded_up
last_product = (refl, refl, refl, refl, refl, refl, refl, refl)
