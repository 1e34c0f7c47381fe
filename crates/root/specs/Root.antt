-- The root of a word: the largest whole r with r² not above x·2^s, and when it is exact.
use Rattle.std.specs.Prelude.{◌≡◌, refl, Bool, true, false, cond, ℕ, zero, suc, ◌+◌, ◌*◌, ◌/◌, ◌<◌, ◌≤◌, eqb, leb, ℤ, pos, negsuc, nat_abs, ◌≤ℤ◌}
use Rattle.std.proofs.Common.{lit≤}
use Rattle.std.specs.Int.Signed.{le_z_yes}
use Rattle.word.specs.Words.{Word, Scale, unit}

-- r is the largest whole number whose square is not above v
pub record RootOf (v r : ℕ) : Type 0 where
  pub low : r * r ≤ v
  pub high : v < (r + 1) * (r + 1)

-- the root of v, given the root r of v / 4: one binary digit more
abbrev pub digit_more : ℕ → ℕ → ℕ
digit_more v r = cond (leb ((r + r + 1) * (r + r + 1)) v) (r + r + 1) (r + r)

-- digit by digit, at most k of them
unfoldable pub root_in : ℕ → ℕ → ℕ
root_in zero v = 0
root_in (suc k) zero = 0
root_in (suc k) (suc n) = digit_more (suc n) (root_in k (suc n / 4))

-- v has no more than v digits. That it is `RootOf v`, and the only one, is `root_of_lem` and `root_is` of proofs/RootLaws.antt
abbrev pub root_of : ℕ → ℕ
root_of v = root_in v v

abbrev pub root_word : ℕ → ℤ → ℤ
root_word s x = pos (root_of (nat_abs x * unit s))

-- a root is exact where its square is x·2^s
abbrev pub exact_root : ℕ → ℤ → Bool
exact_root s x = eqb (root_of (nat_abs x * unit s) * root_of (nat_abs x * unit s)) (nat_abs x * unit s)

-- ---- what the function asks of its callers
abbrev pub Rootable : ℕ → ℤ → Type 0
Rootable s x = Scale s × Word x × pos 0 ≤ℤ x

-- ---- worked examples: the root of 8 and of 9; of one step and of two, at 24 places
below_a_square : root_of 8 ≡ 2
unfolding root_in
below_a_square = refl

at_a_square : root_of 9 ≡ 3
unfolding root_in
at_a_square = refl

of_a_step : root_word 24 (pos 1) ≡ pos 4096
unfolding root_in
of_a_step = refl

of_two : root_word 24 (pos 33554432) ≡ pos 23726566
unfolding root_in
of_two = refl

-- what is asked holds of the words 1, 0 and the largest, at 24 places, at the fewest and at the most, and of nothing below 0
rootable : Rootable 24 (pos 1) × Rootable 16 (pos 0) × Rootable 28 (pos 2147483647) × (Rootable 24 (negsuc 0) → ⊥)
rootable = (
  (record { least = lit≤ tt; most = lit≤ tt }, lit≤ tt, le_z_yes tt),
  (record { least = lit≤ tt; most = lit≤ tt }, lit≤ tt, le_z_yes tt),
  (record { least = lit≤ tt; most = lit≤ tt }, lit≤ tt, le_z_yes tt),
  λ r. r.2.le,
)

-- a digit more to the root of 2, for 8 and for 9
a_digit : (digit_more 8 1 ≡ 2) × (digit_more 9 1 ≡ 3)
a_digit = (refl, refl)

-- exact: the root of two and a quarter, which is one and a half, of 0, and of one step, whose scaled word is 4096 times itself; and rounded: of two and a
-- quarter a step less and a step more, and of two. At 17 places a step is no square, at 28 it is
exact_roots :
    (exact_root 24 (pos 37748736) ≡ true)
    × (exact_root 24 (pos 0) ≡ true)
    × (exact_root 24 (pos 1) ≡ true)
    × (exact_root 24 (pos 37748735) ≡ false)
    × (exact_root 24 (pos 37748737) ≡ false)
    × (exact_root 24 (pos 33554432) ≡ false)
    × (exact_root 17 (pos 1) ≡ false)
    × (exact_root 28 (pos 1) ≡ true)
unfolding root_in
exact_roots = (refl, refl, refl, refl, refl, refl, refl, refl)
