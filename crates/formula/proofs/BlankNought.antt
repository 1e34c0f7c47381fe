-- Promise: a blank formula answers nought, at every argument. What is multiplied or divided is nought, and so is what comes of it.
use Rattle.whole.proofs.Basics.{◌≡◌, ◌∙◌, refl, sym, ap, ap₂, subst, true, List, [], ◌∷◌, ℕ, suc, zero, ◌<◌, arith, take, drop, get_or, T, ℤ, pos, ◌+ℤ◌}
use lib.Seq.{get_or-take}
use Rattle.whole.proofs.Order.{abs_zero}
use Rattle.word.specs.Words.{product_of, quotient_of}
use Rattle.word.proofs.WordLaws.{product_zero, quotient_zero}
use Rattle.polynomial.specs.Polynomial.{horner}
use Rattle.odd_even.specs.OddEven.{square_of}
use Rattle.fraction.specs.Fraction.{b_at, a_after, first_of, rest_of, next_of, outward, fraction_of}
use Rattle.formula.specs.Blank.{all_zero, blank_by, blank_of}
use Rattle.formula.specs.Formula.{answer_by, answer_of}
use Rattle.formula.specs.declared.Kind.{Kind}
use Rattle.formula.specs.declared.Kind.TheVariants.{Polynomial, Rational, Fraction, Root, Odd, Even, NoFormula}
use Rattle.formula.specs.declared.Shape.{Shape}
use Rattle.formula.proofs.BlankLaws.{first_and_rest, each_zero}

-- b0 and a1
zero_of_two : (ws : List ℤ) → all_zero (take 2 ws) ≡ true → (i : ℕ) → i < 2 → get_or ws i (pos 0) ≡ pos 0
zero_of_two ws e i h = sym (get_or-take 2 ws i (pos 0) h) ∙ abs_zero _ (each_zero (take 2 ws) e i)

module _ (s : ℕ) where
  horner_zero : (ws : List ℤ) (x : ℤ) → all_zero ws ≡ true → horner s ws x ≡ pos 0
  unfolding horner
  horner_zero [] x e = refl
  horner_zero (z ∷ zs) x e =
      let p = first_and_rest z zs e in
      ap₂ ◌+ℤ◌ (abs_zero z p.0) (ap (λ (w : ℤ). product_of s w x) (horner_zero zs x p.1) ∙ product_zero s x)

  -- a fraction's last step, whatever it comes from: b0 plus the quotient of (the product of a1 and v1) by t
  outward_zero : (first rest : ℤ) (ws : List ℤ) → all_zero (take 2 ws) ≡ true → (k : ℕ) (t : ℤ) → outward s first rest ws (suc k) t ≡ pos 0
  unfolding outward
  outward_zero first rest ws e zero t =
      ap₂ ◌+ℤ◌ (zero_of_two ws e 0 (omega arith))
      (ap (λ (z : ℤ). quotient_of s (product_of s z first) t) (zero_of_two ws e 1 (omega arith)) ∙ ap (λ (z : ℤ). quotient_of s z t) (product_zero s first) ∙ quotient_zero s t)
  outward_zero first rest ws e (suc k) t = outward_zero first rest ws e k (next_of s (a_after ws (suc k)) (b_at ws (suc k)) rest t)

  fraction_zero : (mode : ℕ) (ws : List ℤ) → all_zero (take 2 ws) ≡ true → (k : ℕ) (x : ℤ) → fraction_of s mode ws k x ≡ pos 0
  unfolding outward
  fraction_zero mode ws e zero x = zero_of_two ws e 0 (omega arith)
  fraction_zero mode ws e (suc k) x = let q = product_of s x x in outward_zero (first_of mode x q) (rest_of mode x q) ws e k (b_at ws (suc k))

pub blank_nought : (s : ℕ) (h : Shape) (ws : List ℤ) (x : ℤ) → blank_of h ws ≡ true → answer_of s h ws x ≡ pos 0
blank_nought s h ws x e = at h.kind e
  where
    at : (k : Kind) → blank_by k h.p ws ≡ true → answer_by k s h.p h.q h.mode ws x ≡ pos 0
    at Polynomial b = horner_zero s (take h.p ws) x b
    at Rational b = let d = horner s (take h.q (drop h.p ws)) x in ap (λ (z : ℤ). quotient_of s z d) (horner_zero s (take h.p ws) x b) ∙ quotient_zero s d
    at Fraction b = fraction_zero s h.mode ws b h.p x
    at Root b = absurd (subst T (sym b) tt)
    at Odd b = ap (λ (z : ℤ). product_of s z x) (horner_zero s (take h.p ws) (square_of s x) b) ∙ product_zero s x
    at Even b = horner_zero s (take h.p ws) (square_of s x) b
    at NoFormula b = refl
