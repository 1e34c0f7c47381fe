-- The exact value of a polynomial, and how far the answer may lie from it, over whole numbers: both times 2^(s·n) for n + 1 coefficients.
use Rattle.std.specs.Prelude.{◌≡◌, refl, List, [], ◌∷◌, ℕ, zero, suc, ◌+◌, ◌*◌, ◌-◌, ◌^◌, ℤ, pos, nat_abs, ◌+ℤ◌, ◌*ℤ◌, length, get_or}
use Rattle.std.proofs.Math.IntN.{pow}
use Rattle.word.specs.Words.{unit}

-- ck·x^k·u^(n-k), summed over k from 0 to n, for u = 2^s
unfoldable pub exact : ℕ → List ℤ → ℤ → ℤ
exact s [] x = pos 0
exact s (c ∷ cs) x = c *ℤ pos (unit s ^ length cs) +ℤ x *ℤ exact s cs x

-- a^j·u^(n-j), summed over j below n
unfoldable pub spread : ℕ → ℕ → ℕ → ℕ
spread u a zero = 0
spread u a (suc n) = u ^ suc n + a * spread u a n

-- ---- the same sums written out: f 0 + .. + f (m - 1)
unfoldable pub sum_below : ℕ → (ℕ → ℕ) → ℕ
sum_below zero f = 0
sum_below (suc m) f = f zero + sum_below m (λ j. f (suc j))

unfoldable pub sum_below_ℤ : ℕ → (ℕ → ℤ) → ℤ
sum_below_ℤ zero f = pos 0
sum_below_ℤ (suc m) f = f zero +ℤ sum_below_ℤ m (λ j. f (suc j))

-- the sum of ck·x^k·2^(s(n-k)) over k up to n
abbrev pub exact_sum : ℕ → List ℤ → ℕ → ℤ → ℤ
exact_sum s ws n x = sum_below_ℤ (suc n) (λ k. get_or ws k (pos 0) *ℤ pow x k *ℤ pos (2 ^ (s * (n - k))))

-- the sum of |x|^j·2^(s(n-j)) over j below n: 1 + |x| + .. + |x|^(n-1) with x in ones, times 2^(s·n)
abbrev pub spread_sum : ℕ → ℕ → ℤ → ℕ
spread_sum s n x = sum_below n (λ j. nat_abs x ^ j * 2 ^ (s * (n - j)))

-- ---- worked examples: 1 + x + x²/2 at a half, and the room that two products leave
parabola_exact : exact 24 (pos 16777216 ∷ pos 16777216 ∷ pos 8388608 ∷ []) (pos 8388608) ≡ pos (27262976 * 2 ^ 48)
unfolding exact
parabola_exact = refl

parabola_room : spread (unit 24) 8388608 2 ≡ 2 ^ 48 + 8388608 * 2 ^ 24
unfolding spread
parabola_room = refl
