-- A fraction of mode 2 with b0 zero answers at -x exactly the negated answer, and one of mode 1 the same: the square is the same, and v1, which
-- alone changes its sign, comes in at the outermost term. The mark at -x is that at x, whatever b0 is: it is told by sizes.
use Rattle.whole.proofs.Basics.{◌≡◌, ◌∙◌, refl, sym, ap, ap₂, Bool, true, List, ℕ, suc, zero, ℤ, pos, neg_ℤ, nat_abs}
use mathlib.Core.Bool.{◌&&◌}
use Rattle.whole.proofs.Order.{abs_neg}
use Rattle.word.specs.Words.{product_of, quotient_of}
use Rattle.word.proofs.SignLaws.{sign_behind_zero}
use Rattle.word.proofs.WordLaws.{product_odd_right, product_same, quotient_odd_dividend}
use Rattle.word.proofs.ExactLaws.{product_sizes, quotient_sizes, square_same}
use Rattle.fraction.specs.Fraction.{b_at, a_after, next_of, outward, fraction_of}
use Rattle.fraction.specs.Exact.{step_exact, outward_exact, square_used, fraction_exact}

-- the outermost term, by -v1
outermost : (s : ℕ) (a b w t : ℤ) → b ≡ pos 0 → next_of s a b (neg_ℤ w) t ≡ neg_ℤ (next_of s a b w t)
outermost s a b w t e = rw (product_odd_right s a w, quotient_odd_dividend s (product_of s a w) t) (sign_behind_zero b (quotient_of s (product_of s a w) t) e)

-- the walk, of one term or more
outward_negated : (s : ℕ) (w rest : ℤ) (ws : List ℤ) (k : ℕ) (t : ℤ) → b_at ws 0 ≡ pos 0 → outward s (neg_ℤ w) rest ws (suc k) t ≡ neg_ℤ (outward s w rest ws (suc k) t)
unfolding outward
outward_negated s w rest ws zero t e = outermost s (a_after ws 0) (b_at ws 0) w t e
outward_negated s w rest ws (suc k) t e = outward_negated s w rest ws k (next_of s (a_after ws (suc k)) (b_at ws (suc k)) rest t) e

-- where there is no term at all, b0 itself is left
pub fraction_negated : (s : ℕ) (ws : List ℤ) (k : ℕ) (x : ℤ) → b_at ws 0 ≡ pos 0 → fraction_of s 2 ws k (neg_ℤ x) ≡ neg_ℤ (fraction_of s 2 ws k x)
unfolding outward
fraction_negated s ws zero x e = e ∙ sym (ap neg_ℤ e)
fraction_negated s ws (suc k) x e =
    ap (λ (q : ℤ). outward s (neg_ℤ x) q ws (suc k) (b_at ws (suc k))) (product_same s x x)
    ∙ outward_negated s x (product_of s x x) ws k (b_at ws (suc k)) e

pub fraction_same : (s : ℕ) (ws : List ℤ) (k : ℕ) (x : ℤ) → fraction_of s 1 ws k (neg_ℤ x) ≡ fraction_of s 1 ws k x
fraction_same s ws k x = ap (λ (q : ℤ). outward s q q ws k (b_at ws k)) (product_same s x x)

-- ---- the marks. The square's
-- the outermost step's, by -v1, and the walk's, of any depth
step_mark_negated : (s : ℕ) (a w t : ℤ) → step_exact s a (neg_ℤ w) t ≡ step_exact s a w t
step_mark_negated s a w t =
    let g = product_of s a w in
    ap₂ ◌&&◌
    (product_sizes s a (neg_ℤ w) a w refl (abs_neg w))
    (quotient_sizes s (product_of s a (neg_ℤ w)) t g t (ap nat_abs (product_odd_right s a w) ∙ abs_neg g) refl)

outward_mark_negated : (s : ℕ) (w rest : ℤ) (ws : List ℤ) (k : ℕ) (t : ℤ) → outward_exact s (neg_ℤ w) rest ws k t ≡ outward_exact s w rest ws k t
unfolding outward_exact
outward_mark_negated s w rest ws zero t = refl
outward_mark_negated s w rest ws (suc zero) t = ap (λ (e : Bool). e && true) (step_mark_negated s (a_after ws 0) w t)
outward_mark_negated s w rest ws (suc (suc k)) t =
    let a = a_after ws (suc k) in
    ap (λ (e : Bool). step_exact s a rest t && e) (outward_mark_negated s w rest ws (suc k) (next_of s a (b_at ws (suc k)) rest t))

pub fraction_mark_negated : (s : ℕ) (ws : List ℤ) (k : ℕ) (x : ℤ) → fraction_exact s 2 ws k (neg_ℤ x) ≡ fraction_exact s 2 ws k x
fraction_mark_negated s ws k x =
    let t = b_at ws k in
    ap₂ ◌&&◌
    (square_same (square_used 2 k) s x)
    (ap (λ (q : ℤ). outward_exact s (neg_ℤ x) q ws k t) (product_same s x x) ∙ outward_mark_negated s x (product_of s x x) ws k t)

pub fraction_mark_same : (s : ℕ) (ws : List ℤ) (k : ℕ) (x : ℤ) → fraction_exact s 1 ws k (neg_ℤ x) ≡ fraction_exact s 1 ws k x
fraction_mark_same s ws k x = ap₂ ◌&&◌ (square_same true s x) (ap (λ (q : ℤ). outward_exact s q q ws k (b_at ws k)) (product_same s x x))
