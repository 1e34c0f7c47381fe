-- An odd polynomial answers at -x exactly the negated answer, and an even one the same; the mark is the same for both. The walk carries both at once,
-- since an odd polynomial without c0, a power lower, is even, and an even one odd. A mark is told by sizes, and those of the walk are the same.
use Rattle.whole.proofs.Basics.{◌≡◌, ◌∙◌, refl, ap, ap₂, ◌⊎◌, inl, inr, List, [], ◌∷◌, ℕ, suc, ◌+◌, arith, ℤ, pos, neg_ℤ, nat_abs, ◌+ℤ◌}
use mathlib.Core.Bool.{◌&&◌}
use lib.ListN.{get_or}
use Rattle.whole.proofs.Order.{abs_neg}
use Rattle.word.specs.Words.{product_of}
use Rattle.word.proofs.SignLaws.{sign_behind_zero}
use Rattle.word.proofs.WordLaws.{product_odd_right, product_same}
use Rattle.word.proofs.ExactLaws.{product_sizes}
use Rattle.polynomial.specs.Polynomial.{horner}
use Rattle.polynomial.specs.Exact.{polynomial_exact}
use Rattle.polynomial.specs.Parity.{OddPowers, EvenPowers}

-- what is left without c0, a power lower
odd_rest : (c : ℤ) (cs : List ℤ) → OddPowers (c ∷ cs) → EvenPowers cs
odd_rest c cs h k = let e : suc (k + k + 1) ≡ suc k + suc k = omega arith in ap (λ (i : ℕ). get_or (c ∷ cs) i (pos 0)) e ∙ h (suc k)

even_rest : (c : ℤ) (cs : List ℤ) → EvenPowers (c ∷ cs) → OddPowers cs
even_rest c cs h k = let e : suc (k + k) ≡ k + k + 1 = omega arith in ap (λ (i : ℕ). get_or (c ∷ cs) i (pos 0)) e ∙ h k

both : (s : ℕ) (ws : List ℤ) (x : ℤ) → (OddPowers ws → horner s ws (neg_ℤ x) ≡ neg_ℤ (horner s ws x)) × (EvenPowers ws → horner s ws (neg_ℤ x) ≡ horner s ws x)
unfolding horner
both s [] x = (λ h. refl, λ h. refl)
both s (c ∷ cs) x = (odd (both s cs x).1, even (both s cs x).0)
  where
    y : ℤ
    y = horner s cs x

    odd : (EvenPowers cs → horner s cs (neg_ℤ x) ≡ y) → OddPowers (c ∷ cs) → c +ℤ product_of s (horner s cs (neg_ℤ x)) (neg_ℤ x) ≡ neg_ℤ (c +ℤ product_of s y x)
    odd f h = rw (f (odd_rest c cs h), product_odd_right s y x) (sign_behind_zero c (product_of s y x) (h 0))

    even : (OddPowers cs → horner s cs (neg_ℤ x) ≡ neg_ℤ y) → EvenPowers (c ∷ cs) → c +ℤ product_of s (horner s cs (neg_ℤ x)) (neg_ℤ x) ≡ c +ℤ product_of s y x
    even f h = rw (f (even_rest c cs h), product_same s y x) refl

pub polynomial_negated : (s : ℕ) (ws : List ℤ) (x : ℤ) → OddPowers ws → horner s ws (neg_ℤ x) ≡ neg_ℤ (horner s ws x)
polynomial_negated s ws x = (both s ws x).0

pub polynomial_same : (s : ℕ) (ws : List ℤ) (x : ℤ) → EvenPowers ws → horner s ws (neg_ℤ x) ≡ horner s ws x
polynomial_same s ws x = (both s ws x).1

-- ---- the mark
pub polynomial_size : (s : ℕ) (ws : List ℤ) (x : ℤ) → OddPowers ws ⊎ EvenPowers ws → nat_abs (horner s ws (neg_ℤ x)) ≡ nat_abs (horner s ws x)
polynomial_size s ws x (inl h) = ap nat_abs (polynomial_negated s ws x h) ∙ abs_neg (horner s ws x)
polynomial_size s ws x (inr h) = ap nat_abs (polynomial_same s ws x h)

rest : (c : ℤ) (cs : List ℤ) → OddPowers (c ∷ cs) ⊎ EvenPowers (c ∷ cs) → OddPowers cs ⊎ EvenPowers cs
rest c cs (inl h) = inr (odd_rest c cs h)
rest c cs (inr h) = inl (even_rest c cs h)

pub polynomial_mark : (s : ℕ) (ws : List ℤ) (x : ℤ) → OddPowers ws ⊎ EvenPowers ws → polynomial_exact s ws (neg_ℤ x) ≡ polynomial_exact s ws x
unfolding polynomial_exact
polynomial_mark s [] x h = refl
polynomial_mark s (c ∷ cs) x h =
    let r = rest c cs h in
    ap₂ ◌&&◌ (polynomial_mark s cs x r) (product_sizes s (horner s cs (neg_ℤ x)) (neg_ℤ x) (horner s cs x) x (polynomial_size s cs x r) (abs_neg x))
