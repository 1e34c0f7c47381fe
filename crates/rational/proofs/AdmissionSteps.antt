-- Admission of a rational formula, step by step, as the code meets it.
use Rattle.whole.proofs.Basics.{◌≡◌, ◌∙◌, refl, sym, ap, ap₂, List, ℕ, ◌+◌, ◌-◌, ◌≤◌, ◌<◌, arith, length, drop, get_or, ℤ, pos, nat_abs}
use native.Mathlib.Decide.{dec_le}
use Rattle.word.specs.Words.{bound_product, bound_quotient}
use Rattle.admission.specs.Admission.{ranged, apart, Admission, granted, range_left, divisor_zero}
use Rattle.admission.proofs.AdmissionLaws.{ranged_yes, ranged_no, apart_yes, apart_no}
use Rattle.polynomial.specs.Polynomial.{bounded, bound_next, bound_of, when_within}
use Rattle.polynomial.proofs.BoundLaws.{within_is, bound_step, bound_turn, bounded_yes, bounded_no}
use Rattle.rational.specs.Rational.{least, rational_admission, ratio_admission}
use Rattle.std.specs.Prelude.{None, Option, Some}

-- ---- the end of the chain: g is the bound product, q the bound quotient, as the code has them
module _ (s A top first rest g : ℕ) (eg : g ≡ bound_product s rest A) where
  at_g : ratio_admission s A top first rest ≡ ranged (first + g) (apart (first - g) (ranged (bound_quotient s top (first - g)) granted))
  at_g = ap (λ (k : ℕ). ranged (first + k) (apart (first - k) (ranged (bound_quotient s top (first - k)) granted))) (sym eg)

  pub sum_left : 2147483647 < first + g → range_left ≡ ratio_admission s A top first rest
  sum_left h = sym (at_g ∙ ranged_yes (first + g) _ h)

  module _ (h : first + g ≤ 2147483647) where
    pub too_near : first ≤ g → divisor_zero ≡ ratio_admission s A top first rest
    too_near k = sym (at_g ∙ ranged_no (first + g) _ h ∙ apart_yes (first - g) _ (omega arith))

    module _ (k : g < first) (q : ℕ) (eq : q ≡ bound_quotient s top (first - g)) where
      after_apart : ratio_admission s A top first rest ≡ ranged q granted
      after_apart = at_g ∙ ranged_no (first + g) _ h ∙ apart_no (first - g) _ (omega arith) ∙ ap (λ (z : ℕ). ranged z granted) (sym eq)

      pub quotient_left : 2147483647 < q → range_left ≡ ratio_admission s A top first rest
      quotient_left l = sym (after_apart ∙ ranged_yes q granted l)

      pub quotient_in : q ≤ 2147483647 → granted ≡ ratio_admission s A top first rest
      quotient_in l = sym (after_apart ∙ ranged_no q granted l)

-- ---- the whole chain
module _ (s A : ℕ) (num den : List ℤ) (n : 0 < length den) where
  abbrev after : ℕ → Admission
  after top = apart (least s A den) (ranged (bound_quotient s top (least s A den)) granted)

  pub top_left : bound_of s A num ≡ None → range_left ≡ rational_admission s A num den
  top_left e = sym (ap (λ (r : Option ℕ). when_within r (λ b. when_within (bound_of s A den) (λ k. after b))) e)

  module _ (top : ℕ) (e₁ : bound_of s A num ≡ Some top) where
    after_top : rational_admission s A num den ≡ when_within (bound_of s A den) (λ k. after top)
    after_top = ap (λ (r : Option ℕ). when_within r (λ b. when_within (bound_of s A den) (λ k. after b))) e₁

    at_bottom : (r : Option ℕ) → bound_of s A den ≡ r → rational_admission s A num den ≡ when_within r (λ k. after top)
    at_bottom r e = after_top ∙ ap (λ (b : Option ℕ). when_within b (λ k. after top)) e

    pub rest_left : bound_of s A (drop 1 den) ≡ None → range_left ≡ rational_admission s A num den
    rest_left e = sym (at_bottom None (bound_step s A den 0 n ∙ ap (bound_next s A (get_or den 0 (pos 0))) e))

    module _ (rest first : ℕ) (e₂ : bound_of s A (drop 1 den) ≡ Some rest) (ef : first ≡ nat_abs (get_or den 0 (pos 0))) where
      abbrev g : ℕ
      g = bound_product s rest A

      bottom_is : bound_of s A den ≡ bounded (first + g)
      bottom_is = bound_turn s A den 1 0 rest (first + g) refl n e₂ (ap (λ (k : ℕ). k + g) ef)

      least_is : least s A den ≡ first - g
      least_is = sym (ap₂ ◌-◌ ef (ap (λ (k : ℕ). bound_product s k A) (within_is s A (drop 1 den) rest e₂)))

      by : Dec (first + g ≤ 2147483647) → ratio_admission s A top first rest ≡ rational_admission s A num den
      by (yes h) =
          ranged_no (first + g) _ h
          ∙ sym (at_bottom (Some (first + g)) (bottom_is ∙ bounded_no (first + g) h) ∙ ap (λ (l : ℕ). apart l (ranged (bound_quotient s top l) granted)) least_is)
      by (no h) =
          let k : 2147483647 < first + g = omega arith in
          ranged_yes (first + g) _ k ∙ sym (at_bottom None (bottom_is ∙ bounded_yes (first + g) k))

      pub ratio_is : ratio_admission s A top first rest ≡ rational_admission s A num den
      ratio_is = by (dec_le (first + g) 2147483647)
