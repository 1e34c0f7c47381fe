-- Demand 3, the distance: a polynomial's answer lies within half of 1 + |x| + .. + |x|^(n-1) steps of the exact value, all times 2·2^(s·n).
use Rattle.whole.proofs.Basics.{◌≡◌, subst, List, [], ◌∷◌, ℕ, suc, ◌+◌, ◌*◌, ◌^◌, ◌≤◌, arith, length, ℤ, pos, nat_abs, ◌+ℤ◌, ◌-ℤ◌, ◌*ℤ◌}
use native.Mathlib.Nat.{pow-suc, mul-le-mul_left, mul-le-mul_right}
use Rattle.whole.proofs.Diff.{v, n, via, ◌⊕◌, ◌⊗◌, ◌⊝◌, size}
use Rattle.whole.proofs.Order.{abs_add, abs_mul}
use Rattle.whole.proofs.Ring.{ring, var, ◌:+◌, ◌:-◌, ◌:*◌}
use Rattle.word.specs.Words.{unit, product_of}
use Rattle.word.proofs.WordLaws.{product_near}
use Rattle.polynomial.specs.Polynomial.{horner}
use Rattle.polynomial.specs.Distance.{exact, spread, exact_sum, spread_sum}
use Rattle.polynomial.proofs.WalkLaws.{horner_one}
use Rattle.polynomial.proofs.SumLaws.{unit_pow, spread_is, exact_is}

-- one step of the walk as an identity: what the product rounds off, and x times the distance so far
step : (c p x h e : ℤ) (u w : ℕ) → (c +ℤ p) *ℤ pos (w * u) -ℤ (c *ℤ pos (w * u) +ℤ x *ℤ e) ≡ (p *ℤ pos u -ℤ h *ℤ x) *ℤ pos w +ℤ x *ℤ (h *ℤ pos w -ℤ e)
step c p x h e u w =
    let C = var 0 in
    let R = var 1 in
    let X = var 2 in
    let H = var 3 in
    let E = var 4 in
    let U = var 5 in
    let W = var 6 in
    ring (c ∷ p ∷ x ∷ h ∷ e ∷ pos u ∷ pos w ∷ []) ((C :+ R) :* (W :* U) :- (C :* (W :* U) :+ X :* E)) ((R :* U :- H :* X) :* W :+ X :* (H :* W :- E)) tt

-- and what it adds to the distance
step_size : (y x z : ℤ) (u w d : ℕ) → 2 * nat_abs y ≤ u → 2 * nat_abs z ≤ d → 2 * nat_abs (y *ℤ pos w +ℤ x *ℤ z) ≤ w * u + nat_abs x * d
step_size y x z u w d f g = omega (arith, abs_add (y *ℤ pos w) (x *ℤ z), abs_mul y (pos w), abs_mul x z, mul-le-mul_right w f, mul-le-mul_left (nat_abs x) g)

-- of any word h that lies near e / u^m; the last product of the kind `odd` is such a step too, without a coefficient
pub step_near : (s : ℕ) (c x h e : ℤ) (m d : ℕ) → 2 * nat_abs (h *ℤ pos (unit s ^ m) -ℤ e) ≤ d → 2 * nat_abs ((c +ℤ product_of s h x) *ℤ pos (unit s ^ suc m) -ℤ (c *ℤ pos (unit s ^ suc m) +ℤ x *ℤ e)) ≤ unit s ^ suc m + nat_abs x * d
step_near s c x h e m d f =
    let p = product_of s h x in
    rw (pow-suc (unit s) m, step c p x h e (unit s) (unit s ^ m)) (step_size (p *ℤ pos (unit s) -ℤ h *ℤ x) x (h *ℤ pos (unit s ^ m) -ℤ e) (unit s) (unit s ^ m) d (product_near s h x) f)

-- ---- for n + 1 coefficients; 0 when n is 0
pub distance : (s : ℕ) (c : ℤ) (cs : List ℤ) (x : ℤ) → 2 * nat_abs (horner s (c ∷ cs) x *ℤ pos (unit s ^ length cs) -ℤ exact s (c ∷ cs) x) ≤ spread (unit s) (nat_abs x) (length cs)
unfolding horner exact spread
distance s c [] x = omega (arith, size (via (horner_one s c x) (v c) ⊗ n (unit s ^ 0) ⊝ (v c ⊗ n (unit s ^ 0) ⊕ v x ⊗ n 0)))
distance s c (c' ∷ cs) x = step_near s c x (horner s (c' ∷ cs) x) (exact s (c' ∷ cs) x) (length cs) (spread (unit s) (nat_abs x) (length cs)) (distance s c' cs x)

-- the same with the sums written out
pub distance_written_out : (s : ℕ) (ws : List ℤ) (m : ℕ) (x : ℤ) → length ws ≡ suc m → 2 * nat_abs (horner s ws x *ℤ pos (2 ^ (s * m)) -ℤ exact_sum s ws m x) ≤ spread_sum s m x
distance_written_out s [] m x e = absurd (omega arith)
distance_written_out s (c ∷ cs) m x e = subst (λ (k : ℕ). 2 * nat_abs (horner s (c ∷ cs) x *ℤ pos (2 ^ (s * k)) -ℤ exact_sum s (c ∷ cs) k x) ≤ spread_sum s k x) (omega arith) at_length
  where
    at_length : 2 * nat_abs (horner s (c ∷ cs) x *ℤ pos (2 ^ (s * length cs)) -ℤ exact_sum s (c ∷ cs) (length cs) x) ≤ spread_sum s (length cs) x
    at_length = rw (← unit_pow s (length cs), ← exact_is s c cs x, ← spread_is s (length cs) x) (distance s c cs x)
