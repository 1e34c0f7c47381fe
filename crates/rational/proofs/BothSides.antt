-- A rational formula of an odd over an even polynomial, or the other way round, answers at -x exactly the negated answer; one of two odd or of two
-- even polynomials the same: the quotient is odd in each argument. The mark is the same for all four, since it is told by sizes.
use Rattle.whole.proofs.Basics.{◌≡◌, ◌∙◌, ap₂, ◌⊎◌, List, ℕ, ℤ, neg_ℤ}
use mathlib.Core.Bool.{◌&&◌}
use Rattle.word.specs.Words.{quotient_of}
use Rattle.word.proofs.WordLaws.{quotient_odd_dividend, quotient_odd_divisor, quotient_same}
use Rattle.word.proofs.ExactLaws.{quotient_sizes}
use Rattle.polynomial.specs.Polynomial.{horner}
use Rattle.polynomial.specs.Parity.{OddPowers, EvenPowers}
use Rattle.polynomial.proofs.BothSides.{polynomial_negated, polynomial_same, polynomial_size, polynomial_mark}
use Rattle.rational.specs.Rational.{rational_of}
use Rattle.rational.specs.Exact.{rational_exact}

module _ (s : ℕ) (num den : List ℤ) (x : ℤ) where
  pub odd_over_even : OddPowers num → EvenPowers den → rational_of s num den (neg_ℤ x) ≡ neg_ℤ (rational_of s num den x)
  odd_over_even f g = ap₂ (quotient_of s) (polynomial_negated s num x f) (polynomial_same s den x g) ∙ quotient_odd_dividend s (horner s num x) (horner s den x)

  pub even_over_odd : EvenPowers num → OddPowers den → rational_of s num den (neg_ℤ x) ≡ neg_ℤ (rational_of s num den x)
  even_over_odd f g = ap₂ (quotient_of s) (polynomial_same s num x f) (polynomial_negated s den x g) ∙ quotient_odd_divisor s (horner s num x) (horner s den x)

  pub even_over_even : EvenPowers num → EvenPowers den → rational_of s num den (neg_ℤ x) ≡ rational_of s num den x
  even_over_even f g = ap₂ (quotient_of s) (polynomial_same s num x f) (polynomial_same s den x g)

  pub odd_over_odd : OddPowers num → OddPowers den → rational_of s num den (neg_ℤ x) ≡ rational_of s num den x
  odd_over_odd f g = ap₂ (quotient_of s) (polynomial_negated s num x f) (polynomial_negated s den x g) ∙ quotient_same s (horner s num x) (horner s den x)

  pub rational_mark : OddPowers num ⊎ EvenPowers num → OddPowers den ⊎ EvenPowers den → rational_exact s num den (neg_ℤ x) ≡ rational_exact s num den x
  rational_mark f g =
      ap₂ ◌&&◌
      (ap₂ ◌&&◌ (polynomial_mark s num x f) (polynomial_mark s den x g))
      (quotient_sizes s (horner s num (neg_ℤ x)) (horner s den (neg_ℤ x)) (horner s num x) (horner s den x) (polynomial_size s num x f) (polynomial_size s den x g))
