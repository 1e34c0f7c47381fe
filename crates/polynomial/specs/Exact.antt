-- The mark of a polynomial's answer: exact where no product on the way was rounded. A sum never is.
use Rattle.std.specs.Prelude.{◌≡◌, refl, Bool, true, false, ◌&&◌, List, [], ◌∷◌, ℕ, ℤ, pos, negsuc}
use Rattle.word.specs.Rounded.{rounded}
use Rattle.word.specs.Exact.{exact_product}
use Rattle.polynomial.specs.Polynomial.{horner}

-- the walk of `horner`. Before cn the running word is 0, and its product exact
unfoldable pub polynomial_exact : ℕ → List ℤ → ℤ → Bool
polynomial_exact s [] x = true
polynomial_exact s (c ∷ cs) x = polynomial_exact s cs x && exact_product s (horner s cs x) x

-- ---- worked examples: 1 + x + x²/2 at a half and at minus a 2,048th; one coefficient has no product
abbrev parabola : List ℤ
parabola = pos 16777216 ∷ pos 16777216 ∷ pos 8388608 ∷ []

nothing_rounded :
    (polynomial_exact 24 parabola (pos 8388608) ≡ true)
    × (polynomial_exact 24 parabola (negsuc 8191) ≡ true)
    × (polynomial_exact 24 (pos 3 ∷ []) (pos 1) ≡ true)
unfolding polynomial_exact horner rounded
nothing_rounded = (refl, refl, refl)

-- one product is rounded: the last, where half of two steps was exact; the only one, half a step; the first, half a step, where the next is exact, since
-- the step that it is rounded to makes up for c1
one_rounded :
    (polynomial_exact 24 parabola (pos 2) ≡ false)
    × (polynomial_exact 24 (pos 0 ∷ pos 8388608 ∷ []) (pos 1) ≡ false)
    × (polynomial_exact 24 (pos 0 ∷ negsuc 0 ∷ pos 1 ∷ []) (pos 8388608) ≡ false)
unfolding polynomial_exact horner rounded
one_rounded = (refl, refl, refl)

-- a step times 2^16, which is one at 16 places and less at 24, and times 2^24, which is less at 28
at_other_places :
    (polynomial_exact 16 (pos 0 ∷ pos 1 ∷ []) (pos 65536) ≡ true)
    × (polynomial_exact 24 (pos 0 ∷ pos 1 ∷ []) (pos 65536) ≡ false)
    × (polynomial_exact 28 (pos 0 ∷ pos 1 ∷ []) (pos 16777216) ≡ false)
unfolding polynomial_exact horner rounded
at_other_places = (refl, refl, refl)
