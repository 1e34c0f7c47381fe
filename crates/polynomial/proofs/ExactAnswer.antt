-- A polynomial's answer that is marked exact is the exact value: both times 2^(s·n), for n + 1 coefficients. By the walk, since an exact product times 2^s
-- is the whole one.
use Rattle.whole.proofs.Basics.{◌≡◌, ◌∙◌, ap, subst, true, List, [], ◌∷◌, ℕ, suc, ◌*◌, ◌^◌, arith, length, ℤ, pos, ◌+ℤ◌, ◌*ℤ◌}
use native.Mathlib.Nat.{pow-suc}
use Rattle.whole.proofs.Diff.{v, n, via, ◌⊕◌, ◌⊗◌, same}
use Rattle.whole.proofs.Ring.{ring, var, ◌:+◌, ◌:*◌}
use Rattle.word.specs.Words.{unit, product_of}
use Rattle.word.specs.Exact.{exact_product}
use Rattle.word.proofs.ExactLaws.{product_exact, both}
use Rattle.polynomial.specs.Polynomial.{horner}
use Rattle.polynomial.specs.Distance.{exact, exact_sum}
use Rattle.polynomial.specs.Exact.{polynomial_exact}
use Rattle.polynomial.proofs.WalkLaws.{horner_one}
use Rattle.polynomial.proofs.SumLaws.{unit_pow, exact_is}

-- ---- one step of the walk
taken_apart : (c p : ℤ) (u w : ℕ) → (c +ℤ p) *ℤ pos (w * u) ≡ c *ℤ pos (w * u) +ℤ p *ℤ pos u *ℤ pos w
taken_apart c p u w =
    let C = var 0 in
    let R = var 1 in
    let U = var 2 in
    let W = var 3 in
    ring (c ∷ p ∷ pos u ∷ pos w ∷ []) ((C :+ R) :* (W :* U)) (C :* (W :* U) :+ R :* U :* W) tt

turned : (h x : ℤ) (w : ℕ) → h *ℤ x *ℤ pos w ≡ x *ℤ (h *ℤ pos w)
turned h x w = same (v h ⊗ v x ⊗ n w) (v x ⊗ (v h ⊗ n w)) (omega arith)

step : (c p x h e : ℤ) (u w : ℕ) → p *ℤ pos u ≡ h *ℤ x → h *ℤ pos w ≡ e → (c +ℤ p) *ℤ pos (w * u) ≡ c *ℤ pos (w * u) +ℤ x *ℤ e
step c p x h e u w f g =
    taken_apart c p u w
    ∙ ap (λ (z : ℤ). c *ℤ pos (w * u) +ℤ z) (ap (λ (z : ℤ). z *ℤ pos w) f ∙ turned h x w ∙ ap (λ (z : ℤ). x *ℤ z) g)

step_exact_lem : (s : ℕ) (c x h e : ℤ) (m : ℕ) → exact_product s h x ≡ true → h *ℤ pos (unit s ^ m) ≡ e → (c +ℤ product_of s h x) *ℤ pos (unit s ^ suc m) ≡ c *ℤ pos (unit s ^ suc m) +ℤ x *ℤ e
step_exact_lem s c x h e m f g = rw (pow-suc (unit s) m) (step c (product_of s h x) x h e (unit s) (unit s ^ m) (product_exact s h x f) g)

-- ---- for n + 1 coefficients
pub exact_answer : (s : ℕ) (c : ℤ) (cs : List ℤ) (x : ℤ) → polynomial_exact s (c ∷ cs) x ≡ true → horner s (c ∷ cs) x *ℤ pos (unit s ^ length cs) ≡ exact s (c ∷ cs) x
unfolding horner exact polynomial_exact
exact_answer s c [] x t = same (via (horner_one s c x) (v c) ⊗ n (unit s ^ 0)) (v c ⊗ n (unit s ^ 0) ⊕ v x ⊗ n 0) (omega arith)
exact_answer s c (c' ∷ cs) x t =
    let b = both (polynomial_exact s (c' ∷ cs) x) (exact_product s (horner s (c' ∷ cs) x) x) t in
    step_exact_lem s c x (horner s (c' ∷ cs) x) (exact s (c' ∷ cs) x) (length cs) b.1 (exact_answer s c' cs x b.0)

-- the same with the sum written out
pub exact_answer_written_out : (s : ℕ) (ws : List ℤ) (m : ℕ) (x : ℤ) → length ws ≡ suc m → polynomial_exact s ws x ≡ true → horner s ws x *ℤ pos (2 ^ (s * m)) ≡ exact_sum s ws m x
exact_answer_written_out s [] m x e t = absurd (omega arith)
exact_answer_written_out s (c ∷ cs) m x e t = subst (λ (k : ℕ). horner s (c ∷ cs) x *ℤ pos (2 ^ (s * k)) ≡ exact_sum s (c ∷ cs) k x) (omega arith) at_length
  where
    at_length : horner s (c ∷ cs) x *ℤ pos (2 ^ (s * length cs)) ≡ exact_sum s (c ∷ cs) (length cs) x
    at_length = rw (← unit_pow s (length cs), ← exact_is s c cs x) (exact_answer s c cs x t)
