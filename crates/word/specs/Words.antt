-- Words, and what the operations on them give. A word w at s binary places stands for w / 2^s; document 01 has s = 24.
use Rattle.std.specs.Prelude.{◌≡◌, refl, Bool, true, false, ℕ, ◌*◌, ◌^◌, ◌<◌, ◌≤◌, ℤ, pos, negsuc, neg_ℤ, nat_abs, ◌*ℤ◌}
use Rattle.std.proofs.Common.{arith, lit≤}
use Rattle.word.specs.Rounded.{rounded, rounded_up}

-- M, the largest word
abbrev pub largest : ℕ
largest = 2147483647

-- a whole number from -M to M
abbrev pub Word : ℤ → Type 0
Word z = nat_abs z ≤ largest

abbrev pub NotZero : ℤ → Type 0
NotZero z = 0 < nat_abs z

-- the binary places that a board may have
pub record Scale (s : ℕ) : Type 0 where
  pub least : 16 ≤ s
  pub most : s ≤ 28

-- one, in steps
abbrev pub unit : ℕ → ℕ
unit s = 2 ^ s

-- a·b / 2^s, rounded
abbrev pub product_of : ℕ → ℤ → ℤ → ℤ
product_of s a b = rounded (a *ℤ b) (unit s)

-- a sign, and what puts it on a number
abbrev pub below_zero : ℤ → Bool
below_zero (pos k) = false
below_zero (negsuc k) = true

abbrev pub with_sign : Bool → ℤ → ℤ
with_sign true z = neg_ℤ z
with_sign false z = z

-- a·2^s / d, rounded; the divisor's sign goes to the numerator
abbrev pub quotient_of : ℕ → ℤ → ℤ → ℤ
quotient_of s a d = rounded (with_sign (below_zero d) (a *ℤ pos (unit s))) (nat_abs d)

-- the same of numbers not below 0, rounded up
abbrev pub bound_product : ℕ → ℕ → ℕ → ℕ
bound_product s a b = rounded_up (a * b) (unit s)

abbrev pub bound_quotient : ℕ → ℕ → ℕ → ℕ
bound_quotient s a d = rounded_up (a * unit s) d

-- ---- what the functions ask of their callers
abbrev pub Factors : ℕ → ℤ → ℤ → Type 0
Factors s a b = Scale s × Word a × Word b

abbrev pub Division : ℕ → ℤ → ℤ → Type 0
Division s a d = Scale s × Word a × Word d × NotZero d

-- ---- worked examples. The largest word and the least, and the number beyond each
the_largest : Word (pos 2147483647)
the_largest = lit≤ tt

the_least : Word (negsuc 2147483646)
the_least = lit≤ tt

beyond_the_largest : Word (pos 2147483648) → ⊥
beyond_the_largest h = omega arith

beyond_the_least : Word (negsuc 2147483647) → ⊥
beyond_the_least h = omega arith

-- the fewest places and the most
fewest : Scale 16
fewest = record { least = lit≤ tt; most = lit≤ tt }

most_places : Scale 28
most_places = record { least = lit≤ tt; most = lit≤ tt }

too_few : Scale 15 → ⊥
too_few h = omega (arith, h.least)

too_many : Scale 29 → ⊥
too_many h = omega (arith, h.most)

-- a third, and a third by a negative divisor
third : (quotient_of 24 (pos 16777216) (pos 50331648) ≡ pos 5592405) × (quotient_of 24 (pos 16777216) (negsuc 50331647) ≡ negsuc 5592404)
unfolding rounded
third = (refl, refl)

-- ties. Five steps times a half, and three, whatever the signs; one step by two, whatever the signs, and three
halves :
    (product_of 24 (pos 5) (pos 8388608) ≡ pos 3)
    × (product_of 24 (pos 5) (negsuc 8388607) ≡ negsuc 2)
    × (product_of 24 (negsuc 2) (pos 8388608) ≡ negsuc 1)
    × (product_of 24 (negsuc 2) (negsuc 8388607) ≡ pos 2)
unfolding rounded
halves = (refl, refl, refl, refl)

half_a_step :
    (quotient_of 24 (pos 1) (pos 33554432) ≡ pos 1)
    × (quotient_of 24 (pos 1) (negsuc 33554431) ≡ negsuc 0)
    × (quotient_of 24 (negsuc 0) (pos 33554432) ≡ negsuc 0)
    × (quotient_of 24 (negsuc 0) (negsuc 33554431) ≡ pos 1)
    × (quotient_of 24 (pos 3) (pos 33554432) ≡ pos 2)
unfolding rounded
half_a_step = (refl, refl, refl, refl, refl)

-- a bound goes up
a_step_more : bound_product 24 1 1 ≡ 1
unfolding rounded_up
a_step_more = refl

a_third_more : bound_quotient 24 16777216 50331648 ≡ 5592406
unfolding rounded_up
a_third_more = refl
