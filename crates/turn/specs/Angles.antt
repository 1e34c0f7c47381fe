-- An angle is counted in parts of a turn, 2^32 to the whole. The argument that it gives has s binary places.
use Rattle.std.specs.Prelude.{◌≡◌, ℕ, ◌+◌, ◌-◌, ◌/◌, ◌%◌, ◌^◌, ◌<◌, Bool, true, false, cond, ℤ, pos, ◌==◌, refl}
use Rattle.std.proofs.Common.{arith, lit≤}
use Rattle.word.specs.Rounded.{rounded}
use Rattle.word.specs.Exact.{divides}

abbrev pub whole_turn : ℕ
whole_turn = 2 ^ 32

abbrev pub half_turn : ℕ
half_turn = 2 ^ 31

abbrev pub quarter_turn : ℕ
quarter_turn = 2 ^ 30

-- what an unsigned number of 32 bits holds
abbrev pub Angle : ℕ → Type 0
Angle a = a < whole_turn

-- sums of angles wrap, and so do differences
abbrev pub angle_sum : ℕ → ℕ → ℕ
angle_sum a b = (a + b) % whole_turn

abbrev pub angle_difference : ℕ → ℕ → ℕ
angle_difference a b = (a + (whole_turn - b)) % whole_turn

-- ---- the two top bits name the quarter, f is the other 30
abbrev pub quarter_of : ℕ → ℕ
quarter_of a = a / quarter_turn

abbrev pub rest_of : ℕ → ℕ
rest_of a = a % quarter_turn

-- in quarters 1 and 3, f becomes 2^30 - f
abbrev pub folded_in : ℕ → ℕ → ℕ
folded_in quarter f = cond (quarter % 2 == 1) (quarter_turn - f) f

-- ---- the argument: f / 2^(30 - s), rounded as products are, so that a quarter turn is one
abbrev pub argument_in : ℕ → ℕ → ℕ → ℤ
argument_in s quarter f = rounded (pos (folded_in quarter f)) (2 ^ (30 - s))

abbrev pub argument_of : ℕ → ℕ → ℤ
argument_of s a = argument_in s (quarter_of a) (rest_of a)

-- it is exact where that division leaves nothing: then it is the angle's own part of a quarter
abbrev pub exact_in : ℕ → ℕ → ℕ → Bool
exact_in s quarter f = divides (2 ^ (30 - s)) (pos (folded_in quarter f))

abbrev pub exact_argument : ℕ → ℕ → Bool
exact_argument s a = exact_in s (quarter_of a) (rest_of a)

-- ---- worked examples. The turn and its parts; the last angle, and the number beyond it
turns : (whole_turn ≡ 0x100000000) × (half_turn ≡ 0x80000000) × (quarter_turn ≡ 0x40000000)
turns = (refl, refl, refl)

last_angle : Angle 0xffffffff × (Angle 0x100000000 → ⊥)
last_angle = (lit≤ tt, λ h. omega arith)

-- the first and the last angle of each quarter
quarters :
    ((quarter_of 0 ≡ 0) × (rest_of 0 ≡ 0) × (quarter_of 0x3fffffff ≡ 0) × (rest_of 0x3fffffff ≡ 0x3fffffff))
    × ((quarter_of 0x40000000 ≡ 1) × (rest_of 0x40000000 ≡ 0) × (quarter_of 0x7fffffff ≡ 1) × (rest_of 0x7fffffff ≡ 0x3fffffff))
    × ((quarter_of 0x80000000 ≡ 2) × (rest_of 0x80000000 ≡ 0) × (quarter_of 0xbfffffff ≡ 2) × (rest_of 0xbfffffff ≡ 0x3fffffff))
    × ((quarter_of 0xc0000000 ≡ 3) × (rest_of 0xc0000000 ≡ 0) × (quarter_of 0xffffffff ≡ 3) × (rest_of 0xffffffff ≡ 0x3fffffff))
quarters = ((refl, refl, refl, refl), (refl, refl, refl, refl), (refl, refl, refl, refl), (refl, refl, refl, refl))

-- f in each quarter: 5 parts on, and none
folds :
    ((folded_in 0 5 ≡ 5) × (folded_in 1 5 ≡ 1073741819) × (folded_in 2 5 ≡ 5) × (folded_in 3 5 ≡ 1073741819))
    × ((folded_in 0 0 ≡ 0) × (folded_in 1 0 ≡ 1073741824) × (folded_in 2 0 ≡ 0) × (folded_in 3 0 ≡ 1073741824))
folds = ((refl, refl, refl, refl), (refl, refl, refl, refl))

-- arguments at 24 places, 64 parts to a step. Just under half a step and half a step, which goes up; just under one and a half, and that. Towards a quarter
-- turn, which is one: more than half a step from it, half a step, and itself; behind it half a step, and more. Half a turn is 0, and just under half a step
-- and half a step behind it; three quarters are one, and the last angle is 0
arguments :
    ((argument_of 24 31 ≡ pos 0) × (argument_of 24 32 ≡ pos 1) × (argument_of 24 95 ≡ pos 1) × (argument_of 24 96 ≡ pos 2))
    × ((argument_of 24 0x3fffffdf ≡ pos 16777215) × (argument_of 24 0x3fffffe0 ≡ pos 16777216) × (argument_of 24 0x40000000 ≡ pos 16777216))
    × ((argument_of 24 0x40000020 ≡ pos 16777216) × (argument_of 24 0x40000021 ≡ pos 16777215))
    × ((argument_of 24 0x80000000 ≡ pos 0) × (argument_of 24 0x8000001f ≡ pos 0) × (argument_of 24 0x80000020 ≡ pos 1))
    × ((argument_of 24 0xc0000000 ≡ pos 16777216) × (argument_of 24 0xffffffff ≡ pos 0))
unfolding rounded
arguments = ((refl, refl, refl, refl), (refl, refl, refl), (refl, refl), (refl, refl, refl), (refl, refl))

-- at 16 places a step has 2^14 parts, at 28 it has 4; a quarter turn is one at each
other_places :
    ((argument_of 16 8191 ≡ pos 0) × (argument_of 16 8192 ≡ pos 1) × (argument_of 16 0x40000000 ≡ pos 65536))
    × ((argument_of 28 1 ≡ pos 0) × (argument_of 28 2 ≡ pos 1) × (argument_of 28 0x40000000 ≡ pos 268435456))
unfolding rounded
other_places = ((refl, refl, refl), (refl, refl, refl))

-- sums and differences just below a whole turn, at it and above
wraps :
    (angle_sum 0xc0000000 0x3fffffff ≡ 0xffffffff)
    × (angle_sum 0xc0000000 0x40000000 ≡ 0)
    × (angle_sum 0xffffffff 0x40000000 ≡ 0x3fffffff)
    × (angle_difference 0 1 ≡ 0xffffffff)
    × (angle_difference 0x80000000 0x80000000 ≡ 0)
    × (angle_difference 0x80000000 0x7fffffff ≡ 1)
    × (angle_difference 0 0 ≡ 0)
wraps = (refl, refl, refl, refl, refl, refl, refl)

-- which are exact: every 64th part at 24 places, in each quarter, and none beside it; at 16 places every 2^14th, at 28 every fourth
exact_arguments :
    ((exact_argument 24 0 ≡ true) × (exact_argument 24 63 ≡ false) × (exact_argument 24 64 ≡ true) × (exact_argument 24 65 ≡ false) × (exact_argument 24 96 ≡ false))
    × ((exact_argument 24 0x40000000 ≡ true) × (exact_argument 24 0x40000001 ≡ false) × (exact_argument 24 0x40000040 ≡ true) × (exact_argument 24 0x7fffffe0 ≡ false))
    × ((exact_argument 24 0x80000040 ≡ true) × (exact_argument 24 0x80000020 ≡ false) × (exact_argument 24 0xffffffc0 ≡ true) × (exact_argument 24 0xffffffff ≡ false))
    × ((exact_argument 16 16384 ≡ true) × (exact_argument 16 8192 ≡ false) × (exact_argument 28 4 ≡ true) × (exact_argument 28 2 ≡ false))
exact_arguments = ((refl, refl, refl, refl, refl), (refl, refl, refl, refl), (refl, refl, refl, refl), (refl, refl, refl, refl))
