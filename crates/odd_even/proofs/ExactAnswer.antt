-- An even or odd answer that is marked exact is the exact value: of the polynomial at x², and of x times that. Where the square is exact, q·2^s is x·x, so
-- the polynomial's exact sum at q is the one at x·x with twice the places; with one coefficient no square is in it. At 0 nothing is rounded.
use Rattle.whole.proofs.Basics.{◌≡◌, ◌∙◌, refl, sym, ap, ap₂, subst, Bool, true, false, cond, List, [], ◌∷◌, ℕ, suc, ◌+◌, ◌*◌, ◌^◌, arith, length, ltb, ℤ, pos, ◌+ℤ◌, ◌*ℤ◌, lt-ltb}
use mathlib.Core.Bool.{◌&&◌}
use native.Mathlib.Nat.{pow-zero, pow-suc}
use lib.Pow.{pow-add}
use Rattle.whole.proofs.Diff.{v, n, ◌⊕◌, ◌⊗◌, same}
use Rattle.whole.proofs.Ring.{ring, var, ◌:*◌}
use Rattle.word.specs.Words.{unit}
use Rattle.word.specs.Exact.{exact_product, square_exact}
use Rattle.word.proofs.WordLaws.{product_zero}
use Rattle.word.proofs.ExactLaws.{product_exact, exact_zero, exact_by_zero, both}
use Rattle.polynomial.specs.Exact.{polynomial_exact}
use Rattle.polynomial.specs.Distance.{exact}
use Rattle.polynomial.proofs.ExactWalk.{exact_at_zero}
use Rattle.polynomial.proofs.ExactAnswer.{exact_answer}
use Rattle.polynomial.proofs.SumLaws.{unit_pow, exact_is}
use Rattle.odd_even.specs.OddEven.{square_of, even_of, odd_of}
use Rattle.odd_even.specs.Exact.{even_exact, odd_exact, even_value, odd_value}

-- ---- from q to x·x, a power of 2^s for each coefficient behind the first
first_term : (c : ℤ) (w : ℕ) → c *ℤ pos w *ℤ pos w ≡ c *ℤ pos (w * w)
first_term c w = same (v c ⊗ n w ⊗ n w) (v c ⊗ n (w * w)) (omega arith)

other_terms : (q e y : ℤ) (u w : ℕ) → q *ℤ pos u ≡ y → q *ℤ e *ℤ pos (w * u) ≡ y *ℤ (e *ℤ pos w)
other_terms q e y u w f =
    let Q = var 0 in
    let E = var 1 in
    let U = var 2 in
    let W = var 3 in
    ring (q ∷ e ∷ pos u ∷ pos w ∷ []) (Q :* E :* (W :* U)) (Q :* U :* (E :* W)) tt ∙ ap (λ (z : ℤ). z *ℤ (e *ℤ pos w)) f

apart : (a b : ℤ) (w : ℕ) → (a +ℤ b) *ℤ pos w ≡ a *ℤ pos w +ℤ b *ℤ pos w
apart a b w = same ((v a ⊕ v b) ⊗ n w) (v a ⊗ n w ⊕ v b ⊗ n w) (omega arith)

doubled : (s k : ℕ) → unit s ^ k * unit s ^ k ≡ unit (s + s) ^ k
doubled s k = ap₂ ◌*◌ (unit_pow s k) (unit_pow s k) ∙ sym (pow-add 2 (s * k) (s * k)) ∙ ap (λ (j : ℕ). 2 ^ j) (omega arith) ∙ sym (unit_pow (s + s) k)

alone : (s : ℕ) (c q y : ℤ) → exact s (c ∷ []) q *ℤ pos (unit s ^ 0) ≡ exact (s + s) (c ∷ []) y
unfolding exact
alone s c q y = rw (pow-zero (unit s), pow-zero (unit (s + s))) (same ((v c ⊗ n 1 ⊕ v q ⊗ n 0) ⊗ n 1) (v c ⊗ n 1 ⊕ v y ⊗ n 0) (omega arith))

at_the_square : (s : ℕ) (c : ℤ) (cs : List ℤ) (q y : ℤ) → q *ℤ pos (unit s) ≡ y → exact s (c ∷ cs) q *ℤ pos (unit s ^ length cs) ≡ exact (s + s) (c ∷ cs) y
unfolding exact
at_the_square s c [] q y f = alone s c q y
at_the_square s c (d ∷ cs) q y f =
    let u = unit s in
    let k = length cs in
    apart (c *ℤ pos (u ^ suc k)) (q *ℤ exact s (d ∷ cs) q) (u ^ suc k)
    ∙ ap₂ ◌+ℤ◌
    (first_term c (u ^ suc k) ∙ ap (λ (w : ℕ). c *ℤ pos w) (doubled s (suc k)))
    (ap (λ (w : ℕ). q *ℤ exact s (d ∷ cs) q *ℤ pos w) (pow-suc u k) ∙ other_terms q (exact s (d ∷ cs) q) y u (u ^ k) f ∙ ap (λ (z : ℤ). y *ℤ z) (at_the_square s d cs q y f))

-- ---- the answers. Of one coefficient the square is not asked for
even_value_lem : (s : ℕ) (c : ℤ) (cs : List ℤ) (x : ℤ) → even_exact s (c ∷ cs) x ≡ true → even_of s (c ∷ cs) x *ℤ pos (unit (s + s) ^ length cs) ≡ exact (s + s) (c ∷ cs) (x *ℤ x)
even_value_lem s c cs x t =
    let q = square_of s x in
    let b = both (square_exact (ltb 1 (length (c ∷ cs))) s x) (polynomial_exact s (c ∷ cs) q) t in
    let w = unit s ^ length cs in
    ap (λ (k : ℕ). even_of s (c ∷ cs) x *ℤ pos k) (sym (doubled s (length cs)))
    ∙ sym (first_term (even_of s (c ∷ cs) x) w)
    ∙ ap (λ (z : ℤ). z *ℤ pos w) (exact_answer s c cs q b.1)
    ∙ at s c cs x b.0
  where
    at : (s : ℕ) (c : ℤ) (cs : List ℤ) (x : ℤ) → square_exact (ltb 1 (length (c ∷ cs))) s x ≡ true → exact s (c ∷ cs) (square_of s x) *ℤ pos (unit s ^ length cs) ≡ exact (s + s) (c ∷ cs) (x *ℤ x)
    at s c [] x e = alone s c (square_of s x) (x *ℤ x)
    at s c (d ∷ cs) x e = at_the_square s c (d ∷ cs) (square_of s x) (x *ℤ x) (product_exact s x x (rw (lt-ltb 1 (suc (suc (length cs))) (omega arith)) at e))

pub even_exact_lem : (s : ℕ) (ws : List ℤ) (m : ℕ) (x : ℤ) → length ws ≡ suc m → even_exact s ws x ≡ true → even_of s ws x *ℤ pos (2 ^ ((s + s) * m)) ≡ even_value s ws m x
even_exact_lem s [] m x e t = absurd (omega (arith, e))
even_exact_lem s (c ∷ cs) m x e t = subst (λ (k : ℕ). even_of s (c ∷ cs) x *ℤ pos (2 ^ ((s + s) * k)) ≡ even_value s (c ∷ cs) k x) (omega (arith, e)) at_length
  where
    at_length : even_of s (c ∷ cs) x *ℤ pos (2 ^ ((s + s) * length cs)) ≡ even_value s (c ∷ cs) (length cs) x
    at_length = rw (← unit_pow (s + s) (length cs), ← exact_is (s + s) c cs (x *ℤ x)) (even_value_lem s c cs x t)

-- x times that, with the last product's 2^s
last : (p h x e : ℤ) (u w : ℕ) → p *ℤ pos u ≡ h *ℤ x → h *ℤ pos w ≡ e → p *ℤ (pos w *ℤ pos u) ≡ x *ℤ e
last p h x e u w f g =
    let R = var 0 in
    let U = var 1 in
    let W = var 2 in
    ring (p ∷ pos u ∷ pos w ∷ []) (R :* (W :* U)) (R :* U :* W) tt
    ∙ ap (λ (z : ℤ). z *ℤ pos w) f
    ∙ same (v h ⊗ v x ⊗ n w) (v x ⊗ (v h ⊗ n w)) (omega arith)
    ∙ ap (λ (z : ℤ). x *ℤ z) g

pub odd_exact_lem : (s : ℕ) (ws : List ℤ) (m : ℕ) (x : ℤ) → length ws ≡ suc m → odd_exact s ws x ≡ true → odd_of s ws x *ℤ (pos (2 ^ ((s + s) * m)) *ℤ pos (2 ^ s)) ≡ odd_value s ws m x
odd_exact_lem s ws m x e t =
    let b = both (even_exact s ws x) (exact_product s (even_of s ws x) x) t in
    last (odd_of s ws x) (even_of s ws x) x (even_value s ws m x) (2 ^ s) (2 ^ ((s + s) * m)) (product_exact s (even_of s ws x) x b.1) (even_exact_lem s ws m x e b.0)

-- ---- at 0 nothing is rounded
counts_or_not : (b t : Bool) → t ≡ true → cond b t true ≡ true
counts_or_not true t e = e
counts_or_not false t e = refl

even_at_zero : (s : ℕ) (ws : List ℤ) → even_exact s ws (pos 0) ≡ true
even_at_zero s ws =
    ap₂ ◌&&◌
    (counts_or_not (ltb 1 (length ws)) (exact_product s (pos 0) (pos 0)) (exact_zero s (pos 0)))
    (ap (polynomial_exact s ws) (product_zero s (pos 0)) ∙ exact_at_zero s ws)

pub odd_at_zero : (s : ℕ) (ws : List ℤ) → odd_exact s ws (pos 0) ≡ true
odd_at_zero s ws = ap₂ ◌&&◌ (even_at_zero s ws) (exact_by_zero s (even_of s ws (pos 0)))
