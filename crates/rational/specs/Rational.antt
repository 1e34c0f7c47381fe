-- Rational formulas over words: two polynomials, the numerator `num` and the divisor `den`. A is the larger of |lo| and |hi|.
use Rattle.std.specs.Prelude.{◌≡◌, refl, List, [], ◌∷◌, ◌++◌, ℕ, ◌+◌, ◌-◌, ◌<◌, ◌≤◌, ℤ, pos, negsuc, nat_abs, length, get_or, drop}
use Rattle.word.specs.Rounded.{rounded, rounded_up}
use Rattle.word.specs.Words.{Word, Scale, quotient_of, bound_product, bound_quotient}
use Rattle.admission.specs.Admission.{admission_number, ranged, apart, Admission, granted}
use Rattle.polynomial.specs.Polynomial.{horner, polynomial_numbers, bound, bound_of, when_within}

-- ---- the answer: the quotient of numerator by divisor
abbrev pub rational_of : ℕ → List ℤ → List ℤ → ℤ → ℤ
rational_of s num den x = quotient_of s (horner s num x) (horner s den x)

-- the numbers on the way, and the one divisor
abbrev pub rational_numbers : ℕ → List ℤ → List ℤ → ℤ → List ℤ
rational_numbers s num den x = polynomial_numbers s num x ++ (polynomial_numbers s den x ++ (rational_of s num den x ∷ []))

abbrev pub rational_divisors : ℕ → List ℤ → ℤ → List ℤ
rational_divisors s den x = horner s den x ∷ []

-- ---- admission. L = |d0| minus the bound product of B_1 of the divisor and A; with one coefficient B_1 is 0, so L = |d0|.
-- (A difference of naturals is 0 where it would be negative: both are below 1)
abbrev pub least : ℕ → ℕ → List ℤ → ℕ
least s A den = nat_abs (get_or den 0 (pos 0)) - bound_product s (bound s A (drop 1 den)) A

-- numerator bounds first, then the divisor's (7); L below 1 (8); the bound quotient of the numerator's B_0 by L (7)
abbrev pub rational_admission : ℕ → ℕ → List ℤ → List ℤ → Admission
rational_admission s A num den =
    when_within (bound_of s A num) (λ top.
    when_within (bound_of s A den) (λ bottom.
    apart (least s A den)
    (ranged (bound_quotient s top (least s A den)) granted)))

-- the end of this chain, from |d0| and B_1 of the divisor on, where B_1 is in range
abbrev pub ratio_admission : ℕ → ℕ → ℕ → ℕ → ℕ → Admission
ratio_admission s A top first rest =
    ranged (first + bound_product s rest A)
    (apart (first - bound_product s rest A)
    (ranged (bound_quotient s top (first - bound_product s rest A)) granted))

-- ---- what the answer asks of its callers: admitted at some A not below |x|
pub record RationalAdmitted (s : ℕ) (num den : List ℤ) (x : ℤ) : Type 0 where
  pub most : ℕ
  pub within : nat_abs x ≤ most
  pub admitted : rational_admission s most num den ≡ granted

abbrev pub RationalReady : ℕ → List ℤ → List ℤ → ℤ → Type 0
RationalReady s num den x = Scale s × Word x × (0 < length num) × (0 < length den) × RationalAdmitted s num den x

-- ---- worked examples: 12 + 6x + x² over 12 - 6x + x², at 0 and at one; refused by 8 where x may reach two
abbrev top : List ℤ
top = pos 201326592 ∷ pos 100663296 ∷ pos 16777216 ∷ []

abbrev bottom : List ℤ
bottom = pos 201326592 ∷ negsuc 100663295 ∷ pos 16777216 ∷ []

at_zero : rational_of 24 top bottom (pos 0) ≡ pos 16777216
unfolding horner rounded
at_zero = refl

at_one : rational_of 24 top bottom (pos 16777216) ≡ pos 45538158
unfolding horner rounded
at_one = refl

to_one : admission_number (rational_admission 24 16777216 top bottom) ≡ 0
unfolding bound bound_of rounded_up
to_one = refl

to_two : admission_number (rational_admission 24 33554432 top bottom) ≡ 8
unfolding bound bound_of rounded_up
to_two = refl

-- 1 + x over 2 - x at one: the numerator's numbers, the divisor's, then the quotient; and the divisor
quotient_numbers : rational_numbers 24 (pos 16777216 ∷ pos 16777216 ∷ []) (pos 33554432 ∷ negsuc 16777215 ∷ []) (pos 16777216) ≡ pos 16777216 ∷ pos 33554432 ∷ pos 0 ∷ pos 16777216 ∷ negsuc 16777215 ∷ pos 16777216 ∷ pos 0 ∷ negsuc 16777215 ∷ pos 33554432 ∷ []
unfolding horner polynomial_numbers rounded
quotient_numbers = refl

quotient_divisor : rational_divisors 24 (pos 33554432 ∷ negsuc 16777215 ∷ []) (pos 16777216) ≡ pos 16777216 ∷ []
unfolding horner rounded
quotient_divisor = refl

-- 7 and 8 as they are met: the divisor's B_0 (7) before L (8); then L of 1, and of 0 (8)
abbrev admitted : ℕ → List ℤ → List ℤ → ℕ
admitted A num den = admission_number (rational_admission 24 A num den)

in_order :
    (admitted 33554432 (pos 1 ∷ []) (pos 0 ∷ pos 2147483647 ∷ []) ≡ 7)
    × (admitted 16777216 (pos 0 ∷ []) (pos 16777217 ∷ pos 16777216 ∷ []) ≡ 0)
    × (admitted 16777216 (pos 0 ∷ []) (pos 16777216 ∷ pos 16777216 ∷ []) ≡ 8)
unfolding bound bound_of rounded_up
in_order = (refl, refl, refl)

-- with one coefficient L is d0 itself; the bound quotient is held to M, which M by one is and M by a step less than one is not (7)
one_coefficient :
    (admitted 16777216 (pos 16777216 ∷ []) (pos 16777216 ∷ []) ≡ 0)
    × (admitted 0 (pos 2147483647 ∷ []) (pos 16777216 ∷ []) ≡ 0)
    × (admitted 0 (pos 2147483647 ∷ []) (pos 16777215 ∷ []) ≡ 7)
unfolding bound bound_of rounded_up
one_coefficient = (refl, refl, refl)
