-- Heron's rule as request M-103 words it: the way to the root of v, and the number of its steps.
use Rattle.std.specs.Prelude.{◌≡◌, refl, cond, ℕ, zero, suc, ◌+◌, ◌*◌, ◌/◌, ◌^◌, ltb, ℤ, pos, nat_abs}
use Rattle.word.specs.Words.{unit}
use Rattle.root.specs.declared.Rooted.{Rooted}

-- b, the number of binary digits of v: at most k of them, and v has at most v
unfoldable pub digits_in : ℕ → ℕ → ℕ
digits_in zero v = 0
digits_in (suc k) zero = 0
digits_in (suc k) (suc n) = suc (digits_in k (suc n / 2))

abbrev pub digits : ℕ → ℕ
digits v = digits_in v v

-- start from 2 to the power b / 2 rounded up: it is the exponent that is rounded
abbrev pub start : ℕ → ℕ
start v = 2 ^ ((digits v + 1) / 2)

-- each step replaces w by the whole part of half of (w plus the whole part of v / w)
abbrev pub next : ℕ → ℕ → ℕ
next v w = (w + v / w) / 2

abbrev pub rooted : ℕ → ℕ → Rooted
rooted r n = record { root = r; steps = n }

-- from w on, with n steps done, until the new number is not below the old. The old one is then the root, and the last step counts.
-- It goes on for at most k steps; each makes w less, so that k = w is enough, and more change nothing (`enough_allowed` of proofs/LeftLaws.antt)
unfoldable pub heron_from : ℕ → ℕ → ℕ → ℕ → Rooted
heron_from zero v w n = rooted w n
heron_from (suc k) v w n = let onward = heron_from k v (next v w) (suc n) in cond (ltb (next v w) w) onward (rooted w (suc n))

-- the root of 0 takes no step
abbrev pub heron_of : ℕ → Rooted
heron_of zero = rooted 0 0
heron_of (suc n) = heron_from (start (suc n)) (suc n) (start (suc n)) 0

-- of a word x: v is x·2^s
abbrev pub rooted_by : ℕ → ℤ → Rooted
rooted_by s x = heron_of (nat_abs x * unit s)

-- ---- worked examples. Digits, and the start by them, odd and even: 2 for 1 to 3, 4 for 4 to 15, 8 for 16 to 63
some_digits : (digits 0 ≡ 0) × (digits 1 ≡ 1) × (digits 2 ≡ 2) × (digits 3 ≡ 2) × (digits 4 ≡ 3) × (digits 16777215 ≡ 24) × (digits 16777216 ≡ 25)
unfolding digits_in
some_digits = (refl, refl, refl, refl, refl, refl, refl)

some_starts : (start 1 ≡ 2) × (start 2 ≡ 2) × (start 3 ≡ 2) × (start 4 ≡ 4) × (start 15 ≡ 4) × (start 16 ≡ 8) × (start 63 ≡ 8) × (start 64 ≡ 16)
unfolding digits_in
some_starts = (refl, refl, refl, refl, refl, refl, refl, refl)

-- of 8, a square less one: 4, 3, 2, and then 3 again, where two numbers would never agree
by_steps : (next 8 4 ≡ 3) × (next 8 3 ≡ 2) × (next 8 2 ≡ 3)
by_steps = (refl, refl, refl)

from_four : (heron_from 4 8 4 0 ≡ rooted 2 3) × (heron_from 4 8 3 1 ≡ rooted 2 3) × (heron_from 4 8 2 2 ≡ rooted 2 3)
unfolding heron_from
from_four = (refl, refl, refl)

-- of 0, which takes no step; of 1, and around the squares of 2 and 3
small_roots :
    (heron_of 0 ≡ rooted 0 0)
    × (heron_of 1 ≡ rooted 1 2)
    × (heron_of 3 ≡ rooted 1 2)
    × (heron_of 4 ≡ rooted 2 2)
    × (heron_of 8 ≡ rooted 2 3)
    × (heron_of 9 ≡ rooted 3 2)
unfolding heron_from digits_in
small_roots = (refl, refl, refl, refl, refl, refl)

-- of the words 0, 1, one, two and the largest, at 24 places
roots_of_words :
    (rooted_by 24 (pos 0) ≡ rooted 0 0)
    × (rooted_by 24 (pos 1) ≡ rooted 4096 5)
    × (rooted_by 24 (pos 16777216) ≡ rooted 16777216 5)
    × (rooted_by 24 (pos 33554432) ≡ rooted 23726566 5)
    × (rooted_by 24 (pos 2147483647) ≡ rooted 189812531 5)
unfolding heron_from digits_in
roots_of_words = (refl, refl, refl, refl, refl)

-- of the word 1 at 16 places and at 28
at_other_places : (rooted_by 16 (pos 1) ≡ rooted 256 4) × (rooted_by 28 (pos 1) ≡ rooted 16384 5)
unfolding heron_from digits_in
at_other_places = (refl, refl)
