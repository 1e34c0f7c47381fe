-- Demand 3, the range: of a sound, admitted formula, at every argument of its interval, each number on the way is a word and no divisor is 0.
use Rattle.whole.proofs.Basics.{◌≡◌, List, ℕ, ◌≤◌, arith, length, take, drop, ℤ, nat_abs, ◌≤ℤ◌}
use Rattle.whole.proofs.Order.{≤ℤ_trans}
use Rattle.word.specs.Words.{Word, NotZero, Scale}
use Rattle.root.proofs.RootLaws.{root_word_lem}
use Rattle.word.specs.Lists.{All}
use Rattle.polynomial.proofs.StaysInRange.{polynomial_stays}
use Rattle.odd_even.proofs.StaysInRange.{even_stays, odd_stays}
use Rattle.rational.proofs.StaysInRange.{rational_stays}
use Rattle.fraction.proofs.StaysInRange.{fraction_stays}
use Rattle.formula.specs.Formula.{most_of, numbers_of, numbers_by, divisors_of, divisors_by, admission_by, Counted, word_count, RootInterval, Answerable}
use Rattle.formula.specs.declared.Kind.{Kind}
use Rattle.formula.specs.declared.Kind.TheVariants.{Polynomial, Rational, Fraction, Root, Odd, Even, NoFormula}
use Rattle.formula.specs.declared.Shape.{Shape}
use Rattle.formula.proofs.SoundLaws.{length_second}
use Rattle.formula.proofs.IntervalLaws.{most_bounds, most_word}
use Rattle.admission.specs.Admission.{granted}

-- ---- what an answerable argument is
module _ (s : ℕ) (h : Shape) (ws : List ℤ) (x : ℤ) (a : Answerable s h ws x) where
  pub x_most : nat_abs x ≤ most_of a.lo a.hi
  x_most = most_bounds a.lo a.hi x a.above a.below

  pub x_word : Word x
  x_word = omega (arith, x_most, most_word a.lo a.hi a.sound.low a.sound.high)

-- ---- by the kind
stays_by : (k : Kind) (s A p q mode : ℕ) (ws : List ℤ) (lo x : ℤ) → Scale s → Word x → nat_abs x ≤ A → lo ≤ℤ x → Counted k p q mode → word_count k p q ≤ length ws → RootInterval k lo → admission_by k s A p q mode ws ≡ granted → All Word (numbers_by k s p q mode ws x) × All NotZero (divisors_by k s p q mode ws x)
stays_by Polynomial s A p q mode ws lo x c w h l counts room rooted e = (polynomial_stays s A (take p ws) x h e, tt)
stays_by Rational s A p q mode ws lo x c w h l counts room rooted e =
    let r = rational_stays s A (take p ws) (take q (drop p ws)) x (omega (arith, length_second p q ws room, counts)) h e in
    (r.numbers, r.divisors)
stays_by Fraction s A p q mode ws lo x c w h l counts room rooted e = fraction_stays s A mode ws p x h e
stays_by Root s A p q mode ws lo x c w h l counts room rooted e = ((root_word_lem s x (c, w, ≤ℤ_trans rooted l), tt), tt)
stays_by Odd s A p q mode ws lo x c w h l counts room rooted e = (odd_stays s A (take p ws) x h e, tt)
stays_by Even s A p q mode ws lo x c w h l counts room rooted e = (even_stays s A (take p ws) x h e, tt)
stays_by NoFormula s A p q mode ws lo x c w h l counts room rooted e = absurd counts

pub formula_stays : (s : ℕ) (h : Shape) (ws : List ℤ) (x : ℤ) → Answerable s h ws x → All Word (numbers_of s h ws x) × All NotZero (divisors_of s h ws x)
formula_stays s h ws x a = stays_by h.kind s (most_of a.lo a.hi) h.p h.q h.mode ws a.lo x a.scale (x_word s h ws x a) (x_most s h ws x a) a.above a.sound.counts a.sound.room a.sound.rooted a.admitted
