-- Demand 3 for rational formulas: of an admitted one, at every argument of the interval, each number on the way is a word and the divisor is not 0.
use Rattle.whole.proofs.Basics.{◌≡◌, ap, List, ℕ, ◌≤◌, ◌<◌, arith, length, drop, get_or, ℤ, pos, nat_abs, ◌+ℤ◌}
use Rattle.whole.proofs.Order.{abs_least}
use Rattle.word.specs.Words.{Word, NotZero, product_of, bound_quotient}
use Rattle.word.proofs.WordLaws.{quotient_within}
use Rattle.word.specs.Lists.{All}
use Rattle.admission.proofs.AdmissionLaws.{ranged_out, apart_out}
use Rattle.word.proofs.ListLaws.{all_append}
use Rattle.polynomial.specs.Polynomial.{horner, polynomial_numbers, bound_of, InRange}
use Rattle.polynomial.proofs.WalkLaws.{horner-drop, running_size, product_bound, in_range_less}
use Rattle.polynomial.proofs.BoundLaws.{within_is, within_range, within_out}
use Rattle.polynomial.proofs.StaysInRange.{numbers_in_range}
use Rattle.rational.specs.Rational.{least, rational_of, rational_numbers, rational_divisors, rational_admission}
use Rattle.admission.specs.Admission.{granted}

pub record RationalStays (s : ℕ) (num den : List ℤ) (x : ℤ) : Type 0 where
  pub numbers : All Word (rational_numbers s num den x)
  pub divisors : All NotZero (rational_divisors s den x)
  pub apart : NotZero (horner s den x)
  pub answer : Word (rational_of s num den x)
  pub top_range : InRange s (nat_abs x) num
  pub bottom_range : InRange s (nat_abs x) den

-- the divisor's size is not below L
divisor_least : (s A : ℕ) (den : List ℤ) (x : ℤ) → 0 < length den → nat_abs x ≤ A → least s A den ≤ nat_abs (horner s den x)
divisor_least s A den x n h =
    let p = product_of s (horner s (drop 1 den) x) x in
    let e : horner s den x ≡ get_or den 0 (pos 0) +ℤ p = horner-drop s den 0 x n in
    omega (arith, ap nat_abs e, abs_least (get_or den 0 (pos 0)) p, product_bound s A (drop 1 den) x h)

pub rational_stays : (s A : ℕ) (num den : List ℤ) (x : ℤ) → 0 < length den → nat_abs x ≤ A → rational_admission s A num den ≡ granted → RationalStays s num den x
rational_stays s A num den x n h e =
    let t = within_out (bound_of s A num) _ e in
    let b = within_out (bound_of s A den) _ t.2 in
    let l = apart_out (least s A den) _ b.2 in
    let r = ranged_out (bound_quotient s t.0 (least s A den)) granted l.1 in
    let top = within_range s A num t.0 t.1 in
    let bottom = within_range s A den b.0 b.1 in
    let d = divisor_least s A den x n h in
    let q = quotient_within s (horner s num x) (horner s den x) t.0 (least s A den) l.0 (omega (arith, running_size s A num x h, within_is s A num t.0 t.1)) d in
    let answer_word : Word (rational_of s num den x) = omega (arith, r.0) in
    let not_zero : NotZero (horner s den x) = omega (arith, l.0) in
    record {
      numbers = all_append Word (polynomial_numbers s num x) _ (numbers_in_range s A num x h top) (all_append Word (polynomial_numbers s den x) _ (numbers_in_range s A den x h bottom) (answer_word, tt));
      divisors = (not_zero, tt);
      apart = not_zero;
      answer = answer_word;
      top_range = in_range_less s (nat_abs x) A num h top;
      bottom_range = in_range_less s (nat_abs x) A den h bottom;
    }
