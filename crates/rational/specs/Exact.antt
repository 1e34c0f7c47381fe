-- The mark of a rational's answer: exact where no product of its two polynomials was rounded, nor the quotient.
use Rattle.std.specs.Prelude.{◌≡◌, refl, Bool, true, false, ◌&&◌, List, [], ◌∷◌, ℕ, ℤ, pos, negsuc}
use Rattle.word.specs.Rounded.{rounded}
use Rattle.word.specs.Exact.{exact_quotient}
use Rattle.polynomial.specs.Polynomial.{horner}
use Rattle.polynomial.specs.Exact.{polynomial_exact}

abbrev pub rational_exact : ℕ → List ℤ → List ℤ → ℤ → Bool
rational_exact s num den x = (polynomial_exact s num x && polynomial_exact s den x) && exact_quotient s (horner s num x) (horner s den x)

-- ---- worked examples: 12 + 6x + x² over 12 - 6x + x² is 1 at 0, and 19/7 at one
abbrev top : List ℤ
top = pos 201326592 ∷ pos 100663296 ∷ pos 16777216 ∷ []

abbrev bottom : List ℤ
bottom = pos 201326592 ∷ negsuc 100663295 ∷ pos 16777216 ∷ []

the_quotient : (rational_exact 24 top bottom (pos 0) ≡ true) × (rational_exact 24 top bottom (pos 16777216) ≡ false)
unfolding polynomial_exact horner rounded
the_quotient = (refl, refl)

-- at one step: of x/2 over one the numerator's product alone is rounded, of nothing over 1 + x/2 the divisor's alone. At two steps both are exact: of x/2
-- over 1 + x/2 the quotient alone is rounded, and of nothing over 1 + x/2 nothing is
one_polynomial :
    (rational_exact 24 (pos 0 ∷ pos 8388608 ∷ []) (pos 16777216 ∷ []) (pos 1) ≡ false)
    × (rational_exact 24 (pos 0 ∷ []) (pos 16777216 ∷ pos 8388608 ∷ []) (pos 1) ≡ false)
    × (rational_exact 24 (pos 0 ∷ pos 8388608 ∷ []) (pos 16777216 ∷ pos 8388608 ∷ []) (pos 2) ≡ false)
    × (rational_exact 24 (pos 0 ∷ []) (pos 16777216 ∷ pos 8388608 ∷ []) (pos 2) ≡ true)
unfolding polynomial_exact horner rounded
one_polynomial = (refl, refl, refl, refl)

-- three steps by minus two at 24 places, and by minus a half at 16
by_places : (rational_exact 24 (pos 3 ∷ []) (negsuc 33554431 ∷ []) (pos 0) ≡ false) × (rational_exact 16 (pos 3 ∷ []) (negsuc 32767 ∷ []) (pos 0) ≡ true)
unfolding polynomial_exact horner rounded
by_places = (refl, refl)
