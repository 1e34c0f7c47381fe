-- The kind `odd` answers at -x exactly the negated answer, and the kind `even` the same: x and -x have the same product with themselves, and the last
-- product is odd. The mark is the same for both.
use Rattle.whole.proofs.Basics.{◌≡◌, ◌∙◌, ap, ap₂, List, ℕ, length, ltb, ℤ, neg_ℤ, nat_abs}
use mathlib.Core.Bool.{◌&&◌}
use Rattle.whole.proofs.Order.{abs_neg}
use Rattle.word.specs.Words.{product_of}
use Rattle.word.proofs.WordLaws.{product_odd_right, product_same}
use Rattle.word.proofs.ExactLaws.{product_sizes, square_same}
use Rattle.polynomial.specs.Polynomial.{horner}
use Rattle.polynomial.specs.Exact.{polynomial_exact}
use Rattle.odd_even.specs.OddEven.{even_of, odd_of}
use Rattle.odd_even.specs.Exact.{even_exact, odd_exact}

pub even_same : (s : ℕ) (ws : List ℤ) (x : ℤ) → even_of s ws (neg_ℤ x) ≡ even_of s ws x
even_same s ws x = ap (horner s ws) (product_same s x x)

pub odd_negated : (s : ℕ) (ws : List ℤ) (x : ℤ) → odd_of s ws (neg_ℤ x) ≡ neg_ℤ (odd_of s ws x)
odd_negated s ws x = ap (λ (y : ℤ). product_of s y (neg_ℤ x)) (even_same s ws x) ∙ product_odd_right s (even_of s ws x) x

-- ---- the mark is told by sizes
pub even_mark : (s : ℕ) (ws : List ℤ) (x : ℤ) → even_exact s ws (neg_ℤ x) ≡ even_exact s ws x
even_mark s ws x = ap₂ ◌&&◌ (square_same (ltb 1 (length ws)) s x) (ap (polynomial_exact s ws) (product_same s x x))

pub odd_mark : (s : ℕ) (ws : List ℤ) (x : ℤ) → odd_exact s ws (neg_ℤ x) ≡ odd_exact s ws x
odd_mark s ws x = ap₂ ◌&&◌ (even_mark s ws x) (product_sizes s (even_of s ws (neg_ℤ x)) (neg_ℤ x) (even_of s ws x) x (ap nat_abs (even_same s ws x)) (abs_neg x))
