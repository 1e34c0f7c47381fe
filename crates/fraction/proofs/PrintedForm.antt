-- The walk outward gives the printed form b0 + a1·v1/(b1 + a2·v2/(b2 + ..)), each quotient and product rounded.
use Rattle.whole.proofs.Basics.{◌≡◌, ◌∙◌, ap, List, ℕ, suc, zero, ◌+◌, arith, ℤ}
use Rattle.fraction.specs.Fraction.{b_at, a_after, at, next_of, outward}

-- b_i + a_(i+1)·v_(i+1)/(b_(i+1) + ..), with d terms below b_i
pub printed : ℕ → ℤ → ℤ → List ℤ → ℕ → ℕ → ℤ
printed s first rest ws zero i = b_at ws i
printed s first rest ws (suc d) i = next_of s (a_after ws i) (b_at ws i) (at first rest i) (printed s first rest ws d (suc i))

outward_printed : (s : ℕ) (first rest : ℤ) (ws : List ℤ) (j d : ℕ) → outward s first rest ws j (printed s first rest ws d j) ≡ printed s first rest ws (d + j) 0
unfolding outward printed
outward_printed s first rest ws zero d = let e : d ≡ d + 0 = omega arith in ap (λ (k : ℕ). printed s first rest ws k 0) e
outward_printed s first rest ws (suc i) d = let e : suc d + i ≡ d + suc i = omega arith in outward_printed s first rest ws i (suc d) ∙ ap (λ (k : ℕ). printed s first rest ws k 0) e

pub fraction_printed : (s : ℕ) (first rest : ℤ) (ws : List ℤ) (k : ℕ) → outward s first rest ws k (b_at ws k) ≡ printed s first rest ws k 0
unfolding printed
fraction_printed s first rest ws k = let e : 0 + k ≡ k = omega arith in outward_printed s first rest ws k 0 ∙ ap (λ (m : ℕ). printed s first rest ws m 0) e
