-- The mark of a fraction's answer, exact where nothing that it uses was rounded, and the fraction's exact value.
use Rattle.std.specs.Prelude.{◌≡◌, refl, Bool, true, false, ◌&&◌, List, [], ◌∷◌, ℕ, zero, suc, ltb, ℤ, pos, negsuc, ◌+ℤ◌, ◌*ℤ◌}
use Rattle.std.proofs.Common.{arith, lit≤}
use Rattle.word.specs.Rounded.{rounded}
use Rattle.word.specs.Words.{NotZero, unit, product_of}
use Rattle.word.specs.Exact.{exact_product, exact_quotient, square_exact}
use Rattle.fraction.specs.Fraction.{b_at, a_after, at, first_of, rest_of, next_of}

-- ---- the mark. One step: neither the product of a and v nor its quotient by t was rounded. A sum never is
abbrev pub step_exact : ℕ → ℤ → ℤ → ℤ → Bool
step_exact s a v t = exact_product s a v && exact_quotient s (product_of s a v) t

-- the walk of `outward`: every step
unfoldable pub outward_exact : ℕ → ℤ → ℤ → List ℤ → ℕ → ℤ → Bool
outward_exact s first rest ws zero t = true
outward_exact s first rest ws (suc i) t =
    step_exact s (a_after ws i) (at first rest i) t
    && outward_exact s first rest ws i (next_of s (a_after ws i) (b_at ws i) (at first rest i) t)

-- whether the rule uses the square, by mode and depth: not in mode 0; in mode 1; in mode 2, where v1 is x, from depth 2 on. Coefficients do not
-- matter: 0 times the square uses it too
abbrev pub square_used : ℕ → ℕ → Bool
square_used zero k = false
square_used (suc zero) k = true
square_used (suc (suc m)) k = ltb 1 k

abbrev pub fraction_exact : ℕ → ℕ → List ℤ → ℕ → ℤ → Bool
fraction_exact s mode ws k x =
    square_exact (square_used mode k) s x
    && outward_exact s (first_of mode x (product_of s x x)) (rest_of mode x (product_of s x x)) ws k (b_at ws k)

-- ---- the exact value, in steps of 2^-s, as a fraction of whole numbers
pub record Ratio : Type 0 where
  pub top : ℤ
  pub bottom : ℤ

-- x, and its square x·x / 2^s
abbrev pub over_one : ℤ → Ratio
over_one x = record { top = x; bottom = pos 1 }

abbrev pub square : ℕ → ℤ → Ratio
square s x = record { top = x *ℤ x; bottom = pos (unit s) }

-- b + a·v/r: the product divides by 2^s and the quotient multiplies by it. For v = y/o and r = p/q it is (b·(o·p) + a·(y·q)) / (o·p)
abbrev pub next_ratio : ℤ → ℤ → Ratio → Ratio → Ratio
next_ratio a b v r = record { top = b *ℤ (v.bottom *ℤ r.top) +ℤ a *ℤ (v.top *ℤ r.bottom); bottom = v.bottom *ℤ r.top }

unfoldable pub outward_ratio : Ratio → Ratio → List ℤ → ℕ → Ratio → Ratio
outward_ratio first rest ws zero r = r
outward_ratio first rest ws (suc i) r = outward_ratio first rest ws i (next_ratio (a_after ws i) (b_at ws i) (at first rest i) r)

abbrev pub fraction_ratio : ℕ → ℕ → List ℤ → ℕ → ℤ → Ratio
fraction_ratio s mode ws k x = outward_ratio (first_of mode (over_one x) (square s x)) (rest_of mode (over_one x) (square s x)) ws k (over_one (b_at ws k))

-- z is top / bottom
abbrev pub Equals : ℤ → Ratio → Type 0
Equals z r = (z *ℤ r.bottom ≡ r.top) × NotZero r.bottom

-- ---- worked examples. One step of the walk: a half times the smallest number is rounded, and its quotient by one is not; one by three is rounded;
-- three by three is not, whichever factor is three
one_step :
    (step_exact 24 (pos 8388608) (pos 1) (pos 16777216) ≡ false)
    × (step_exact 24 (pos 16777216) (pos 16777216) (pos 50331648) ≡ false)
    × (step_exact 24 (pos 50331648) (pos 16777216) (pos 50331648) ≡ true)
    × (step_exact 24 (pos 16777216) (pos 50331648) (negsuc 50331647) ≡ true)
unfolding rounded
one_step = (refl, refl, refl, refl)

-- x/(1 - x²/3) at one, where a third is rounded, and at one and a half, where it is 6; with x for x², and with x² for x
abbrev tangent : List ℤ
tangent = pos 0 ∷ pos 16777216 ∷ pos 16777216 ∷ negsuc 16777215 ∷ pos 50331648 ∷ []

of_the_tangent :
    (fraction_exact 24 2 tangent 2 (pos 16777216) ≡ false)
    × (fraction_exact 24 2 tangent 2 (pos 25165824) ≡ true)
    × (fraction_exact 24 0 tangent 2 (pos 25165824) ≡ true)
    × (fraction_exact 24 1 tangent 2 (pos 25165824) ≡ true)
unfolding outward_exact rounded
of_the_tangent = (refl, refl, refl, refl)

-- what is divided by has the mode's v's too: x/(1 - x²) at a half is two thirds, and x/(1 - x) is one
two_thirds :
    (fraction_exact 24 2 (pos 0 ∷ pos 16777216 ∷ pos 16777216 ∷ negsuc 16777215 ∷ pos 16777216 ∷ []) 2 (pos 8388608) ≡ false)
    × (fraction_exact 24 0 (pos 0 ∷ pos 16777216 ∷ pos 16777216 ∷ negsuc 16777215 ∷ pos 16777216 ∷ []) 2 (pos 8388608) ≡ true)
unfolding outward_exact rounded
two_thirds = (refl, refl)

-- every step counts: here the inner one alone is rounded, though an a1 of 0 leaves nothing of it in the answer; here the outer one alone
every_step :
    (fraction_exact 24 0 (pos 0 ∷ pos 0 ∷ pos 16777216 ∷ pos 16777216 ∷ pos 50331648 ∷ []) 2 (pos 16777216) ≡ false)
    × (fraction_exact 24 0 (pos 0 ∷ pos 16777216 ∷ pos 50331648 ∷ pos 0 ∷ pos 16777216 ∷ []) 2 (pos 16777216) ≡ false)
unfolding outward_exact rounded
every_step = (refl, refl)

-- which v, in steps: 2,048 times 8,192 is exact, and times the square of 8,192, which is 4, it is rounded. As v1, in modes 2 and 1; as v2, in modes 0 and 2
first_v :
    (fraction_exact 24 2 (pos 0 ∷ pos 2048 ∷ pos 16777216 ∷ pos 0 ∷ pos 16777216 ∷ []) 2 (pos 8192) ≡ true)
    × (fraction_exact 24 1 (pos 0 ∷ pos 2048 ∷ pos 16777216 ∷ pos 0 ∷ pos 16777216 ∷ []) 2 (pos 8192) ≡ false)
unfolding outward_exact rounded
first_v = (refl, refl)

second_v :
    (fraction_exact 24 0 (pos 0 ∷ pos 0 ∷ pos 16777216 ∷ pos 2048 ∷ pos 16777216 ∷ []) 2 (pos 8192) ≡ true)
    × (fraction_exact 24 2 (pos 0 ∷ pos 0 ∷ pos 16777216 ∷ pos 2048 ∷ pos 16777216 ∷ []) 2 (pos 8192) ≡ false)
unfolding outward_exact rounded
second_v = (refl, refl)

-- the square by mode and depth
used_by_shape :
    (square_used 0 1 ≡ false)
    × (square_used 0 2 ≡ false)
    × (square_used 1 1 ≡ true)
    × (square_used 1 2 ≡ true)
    × (square_used 2 1 ≡ false)
    × (square_used 2 2 ≡ true)
    × (square_used 2 3 ≡ true)
used_by_shape = (refl, refl, refl, refl, refl, refl, refl)

-- in v1/(1 + 0·v2/1) at the smallest number above 0 nothing is rounded but its square: the mark is the square's where that is used
abbrev beside_zero : List ℤ
beside_zero = pos 0 ∷ pos 16777216 ∷ pos 16777216 ∷ pos 0 ∷ pos 16777216 ∷ []

square_rounded :
    (fraction_exact 24 0 beside_zero 1 (pos 1) ≡ true)
    × (fraction_exact 24 0 beside_zero 2 (pos 1) ≡ true)
    × (fraction_exact 24 1 beside_zero 1 (pos 1) ≡ false)
    × (fraction_exact 24 1 beside_zero 2 (pos 1) ≡ false)
    × (fraction_exact 24 2 beside_zero 1 (pos 1) ≡ true)
    × (fraction_exact 24 2 beside_zero 2 (pos 1) ≡ false)
unfolding outward_exact rounded
square_rounded = (refl, refl, refl, refl, refl, refl)

-- in steps, the square of 4,096 is 1
square_exact_lem : (fraction_exact 24 1 beside_zero 1 (pos 4096) ≡ true) × (fraction_exact 24 2 beside_zero 2 (negsuc 4095) ≡ true)
unfolding outward_exact rounded
square_exact_lem = (refl, refl)

-- at 16 places one is another, and at 28: the smallest number times one, by one; three times it; half of it; and the square of 256 steps
at_other_places :
    (fraction_exact 16 0 (pos 0 ∷ pos 1 ∷ pos 65536 ∷ []) 1 (pos 65536) ≡ true)
    × (fraction_exact 24 0 (pos 0 ∷ pos 1 ∷ pos 65536 ∷ []) 1 (pos 65536) ≡ false)
    × (fraction_exact 28 0 (pos 0 ∷ pos 3 ∷ pos 268435456 ∷ []) 1 (pos 268435456) ≡ true)
    × (fraction_exact 28 0 (pos 0 ∷ pos 1 ∷ pos 536870912 ∷ []) 1 (pos 268435456) ≡ false)
    × (fraction_exact 16 2 (pos 0 ∷ pos 0 ∷ pos 65536 ∷ pos 0 ∷ pos 65536 ∷ []) 2 (pos 256) ≡ true)
unfolding outward_exact rounded
at_other_places = (refl, refl, refl, refl, refl)

-- the tangent's at a half is 6/11; with x for x² it is 3/5, with x² for x 3/11, and of depth 1 a half. At four places one is 16
abbrev coarse : List ℤ
coarse = pos 0 ∷ pos 16 ∷ pos 16 ∷ negsuc 15 ∷ pos 48 ∷ []

ratios :
    (fraction_ratio 4 2 coarse 2 (pos 8) ≡ record { top = pos 98304; bottom = pos 11264 })
    × (fraction_ratio 4 0 coarse 2 (pos 8) ≡ record { top = pos 6144; bottom = pos 640 })
    × (fraction_ratio 4 1 coarse 2 (pos 8) ≡ record { top = pos 786432; bottom = pos 180224 })
    × (fraction_ratio 4 2 coarse 1 (pos 8) ≡ record { top = pos 128; bottom = pos 16 })
unfolding outward_ratio
ratios = (refl, refl, refl, refl)

-- minus six is -12/2; nothing is 12/0
is_minus_six : Equals (negsuc 5) (record { top = negsuc 11; bottom = pos 2 })
is_minus_six = (refl, lit≤ tt)

by_nothing : (z : ℤ) → Equals z (record { top = pos 12; bottom = pos 0 }) → ⊥
by_nothing z e = omega (arith, e.1)
