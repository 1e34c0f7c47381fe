-- `exact` and `spread` are the sums that they stand for.
use Rattle.whole.proofs.Basics.{◌≡◌, ◌∙◌, refl, sym, ap, ap₂, List, [], ◌∷◌, ℕ, suc, zero, ◌+◌, ◌-◌, ◌*◌, ◌^◌, arith, length, get_or, ℤ, pos, nat_abs, ◌+ℤ◌, ◌*ℤ◌}
use native.Mathlib.Nat.{pow-suc, pow-succ', pow-zero, mul-zero, mul-add, mul-suc, suc-sub-suc, sub-zero}
use lib.IntN.{pow, one, *ℤ-zero}
use lib.Pow.{pow-add}
use Rattle.whole.proofs.Diff.{v, n, ◌⊕◌, ◌⊗◌, same}
use Rattle.word.specs.Words.{unit}
use Rattle.polynomial.specs.Distance.{exact, spread, sum_below, sum_below_ℤ, exact_sum, spread_sum}

-- ---- sums
mul_ℤ_add : (a b c : ℤ) → a *ℤ (b +ℤ c) ≡ a *ℤ b +ℤ a *ℤ c
mul_ℤ_add a b c = same (v a ⊗ (v b ⊕ v c)) (v a ⊗ v b ⊕ v a ⊗ v c) (omega arith)

sum_same : (m : ℕ) (f g : ℕ → ℕ) → ((j : ℕ) → f j ≡ g j) → sum_below m f ≡ sum_below m g
unfolding sum_below
sum_same zero f g e = refl
sum_same (suc m) f g e = ap₂ ◌+◌ (e zero) (sum_same m (λ j. f (suc j)) (λ j. g (suc j)) (λ j. e (suc j)))

sum_scale : (a m : ℕ) (f : ℕ → ℕ) → a * sum_below m f ≡ sum_below m (λ j. a * f j)
unfolding sum_below
sum_scale a zero f = mul-zero a
sum_scale a (suc m) f = mul-add a (f zero) (sum_below m (λ j. f (suc j))) ∙ ap (λ (t : ℕ). a * f zero + t) (sum_scale a m (λ j. f (suc j)))

sum_ℤ_same : (m : ℕ) (f g : ℕ → ℤ) → ((j : ℕ) → f j ≡ g j) → sum_below_ℤ m f ≡ sum_below_ℤ m g
unfolding sum_below_ℤ
sum_ℤ_same zero f g e = refl
sum_ℤ_same (suc m) f g e = ap₂ ◌+ℤ◌ (e zero) (sum_ℤ_same m (λ j. f (suc j)) (λ j. g (suc j)) (λ j. e (suc j)))

sum_ℤ_scale : (a : ℤ) (m : ℕ) (f : ℕ → ℤ) → a *ℤ sum_below_ℤ m f ≡ sum_below_ℤ m (λ j. a *ℤ f j)
unfolding sum_below_ℤ
sum_ℤ_scale a zero f = *ℤ-zero a
sum_ℤ_scale a (suc m) f = mul_ℤ_add a (f zero) (sum_below_ℤ m (λ j. f (suc j))) ∙ ap (λ (t : ℤ). a *ℤ f zero +ℤ t) (sum_ℤ_scale a m (λ j. f (suc j)))

pub unit_pow : (s m : ℕ) → unit s ^ m ≡ 2 ^ (s * m)
unit_pow s zero = pow-zero (2 ^ s) ∙ sym (pow-zero 2) ∙ ap (λ (t : ℕ). 2 ^ t) (sym (mul-zero s))
unit_pow s (suc m) = pow-suc (2 ^ s) m ∙ ap (λ (t : ℕ). t * 2 ^ s) (unit_pow s m) ∙ sym (pow-add 2 (s * m) s) ∙ ap (λ (t : ℕ). 2 ^ t) (sym (mul-suc s m))

-- ---- the distance's sum
spread_powers : (u a m : ℕ) → spread u a m ≡ sum_below m (λ j. a ^ j * u ^ (m - j))
unfolding spread sum_below
spread_powers u a zero = refl
spread_powers u a (suc m) =
    ap₂ ◌+◌ first (ap (λ (t : ℕ). a * t) (spread_powers u a m) ∙ sum_scale a m (λ j. a ^ j * u ^ (m - j)) ∙ sum_same m (λ j. a * (a ^ j * u ^ (m - j))) (λ j. a ^ suc j * u ^ (suc m - suc j)) next)
  where
    first : u ^ suc m ≡ a ^ 0 * u ^ (suc m - 0)
    first = rw (pow-zero a, sub-zero (suc m)) (omega arith)

    next : (j : ℕ) → a * (a ^ j * u ^ (m - j)) ≡ a ^ suc j * u ^ (suc m - suc j)
    next j = rw (pow-succ' a j, suc-sub-suc m j) (omega arith)

pub spread_is : (s m : ℕ) (x : ℤ) → spread (unit s) (nat_abs x) m ≡ spread_sum s m x
spread_is s m x =
    spread_powers (unit s) (nat_abs x) m
    ∙ sum_same m (λ j. nat_abs x ^ j * unit s ^ (m - j)) (λ j. nat_abs x ^ j * 2 ^ (s * (m - j))) (λ j. ap (λ (t : ℕ). nat_abs x ^ j * t) (unit_pow s (m - j)))

-- ---- the exact value's sum
exact_first : (s : ℕ) (c x : ℤ) (m : ℕ) → c *ℤ pos (unit s ^ m) ≡ c *ℤ pow x 0 *ℤ pos (unit s ^ (suc m - 1))
unfolding pow one
exact_first s c x m = ap (λ (k : ℕ). c *ℤ pos (unit s ^ k)) (omega arith) ∙ same (v c ⊗ n (unit s ^ (suc m - 1))) (v c ⊗ n 1 ⊗ n (unit s ^ (suc m - 1))) (omega arith)

exact_next : (s : ℕ) (cs : List ℤ) (x : ℤ) (k : ℕ) → x *ℤ (get_or cs k (pos 0) *ℤ pow x k *ℤ pos (unit s ^ (length cs - suc k))) ≡ get_or cs k (pos 0) *ℤ pow x (suc k) *ℤ pos (unit s ^ (suc (length cs) - suc (suc k)))
unfolding pow
exact_next s cs x k =
    let u = unit s ^ (length cs - suc k) in
    rw (suc-sub-suc (length cs) (suc k)) (same (v x ⊗ (v (get_or cs k (pos 0)) ⊗ v (pow x k) ⊗ n u)) (v (get_or cs k (pos 0)) ⊗ (v (pow x k) ⊗ v x) ⊗ n u) (omega arith))

abbrev powers : ℕ → List ℤ → ℤ → ℕ → ℤ
powers s cs x k = get_or cs k (pos 0) *ℤ pow x k *ℤ pos (unit s ^ (length cs - suc k))

exact_powers : (s : ℕ) (cs : List ℤ) (x : ℤ) → exact s cs x ≡ sum_below_ℤ (length cs) (powers s cs x)
unfolding exact sum_below_ℤ
exact_powers s [] x = refl
exact_powers s (c ∷ cs) x =
    ap₂ ◌+ℤ◌ (exact_first s c x (length cs))
    (ap (λ (t : ℤ). x *ℤ t) (exact_powers s cs x) ∙ sum_ℤ_scale x (length cs) (powers s cs x) ∙ sum_ℤ_same (length cs) (λ k. x *ℤ powers s cs x k) (λ k. powers s (c ∷ cs) x (suc k)) (exact_next s cs x))

pub exact_is : (s : ℕ) (c : ℤ) (cs : List ℤ) (x : ℤ) → exact s (c ∷ cs) x ≡ exact_sum s (c ∷ cs) (length cs) x
exact_is s c cs x =
    exact_powers s (c ∷ cs) x
    ∙ sum_ℤ_same (suc (length cs)) (powers s (c ∷ cs) x) (λ k. get_or (c ∷ cs) k (pos 0) *ℤ pow x k *ℤ pos (2 ^ (s * (length cs - k)))) (λ k. ap (λ (t : ℕ). get_or (c ∷ cs) k (pos 0) *ℤ pow x k *ℤ pos t) (ap (λ (t : ℕ). unit s ^ t) (suc-sub-suc (length cs) k) ∙ unit_pow s (length cs - k)))
