-- The mark from the last coefficient down, as a loop meets it; and that at 0 nothing is rounded.
use Rattle.whole.proofs.Basics.{◌≡◌, ◌∙◌, refl, ap, ap₂, true, List, [], ◌∷◌, ℕ, suc, ◌-◌, ◌<◌, arith, length, drop, get_or, ℤ, pos}
use mathlib.Core.Bool.{◌&&◌}
use lib.ListN.{drop_of_length-le}
use lib.Seq.{drop-cons}
use Rattle.word.specs.Exact.{exact_product}
use Rattle.word.proofs.ExactLaws.{exact_zero, exact_by_zero}
use Rattle.polynomial.specs.Polynomial.{horner}
use Rattle.polynomial.specs.Exact.{polynomial_exact}

pub exact-drop : (s : ℕ) (ws : List ℤ) (i : ℕ) (x : ℤ) → i < length ws → polynomial_exact s (drop i ws) x ≡ (polynomial_exact s (drop (suc i) ws) x && exact_product s (horner s (drop (suc i) ws) x) x)
unfolding polynomial_exact
exact-drop s ws i x h = ap (λ (l : List ℤ). polynomial_exact s l x) (drop-cons ws i (pos 0) h)

exact_one : (s : ℕ) (c x : ℤ) → polynomial_exact s (c ∷ []) x ≡ true
unfolding polynomial_exact horner
exact_one s c x = exact_zero s x

pub exact_last : (s : ℕ) (ws : List ℤ) (x : ℤ) → 0 < length ws → polynomial_exact s (drop (length ws - 1) ws) x ≡ true
exact_last s ws x h =
    let last = length ws - 1 in
    ap (λ (l : List ℤ). polynomial_exact s l x) (drop-cons ws last (pos 0) (omega arith) ∙ ap (λ (l : List ℤ). get_or ws last (pos 0) ∷ l) (drop_of_length-le ws {i = suc last} (omega arith)))
    ∙ exact_one s (get_or ws last (pos 0)) x

pub exact_at_zero : (s : ℕ) (ws : List ℤ) → polynomial_exact s ws (pos 0) ≡ true
unfolding polynomial_exact
exact_at_zero s [] = refl
exact_at_zero s (c ∷ cs) = ap₂ ◌&&◌ (exact_at_zero s cs) (exact_by_zero s (horner s cs (pos 0)))
