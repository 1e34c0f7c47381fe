-- A formula's answer that is marked exact is the formula's exact value: each kind's own law, for a sound, admitted formula and an argument in its interval.
use Rattle.whole.proofs.Basics.{◌≡◌, ◌∙◌, ap, true, List, ℕ, suc, ◌-◌, ◌≤◌, arith, length, take, drop, ℤ, pos}
use lib.Seq.{length-take-le}
use Rattle.word.specs.Words.{NotZero}
use Rattle.word.specs.Lists.{All}
use Rattle.root.proofs.RootLaws.{root_exact}
use Rattle.polynomial.proofs.ExactAnswer.{exact_answer_written_out}
use Rattle.odd_even.proofs.ExactAnswer.{odd_exact_lem, even_exact_lem, odd_at_zero}
use Rattle.rational.proofs.ExactAnswer.{rational_exact_lem}
use Rattle.fraction.proofs.ExactAnswer.{fraction_exact_lem}
use Rattle.formula.specs.Formula.{answer_by, answer_of, divisors_by, Counted, word_count, Answerable}
use Rattle.formula.specs.Exact.{exact_by, exact_of, ValueBy, ValueOf}
use Rattle.formula.specs.declared.Kind.{Kind}
use Rattle.formula.specs.declared.Kind.TheVariants.{Polynomial, Rational, Fraction, Root, Odd, Even, NoFormula}
use Rattle.formula.specs.declared.Shape.{Shape}
use Rattle.formula.proofs.SoundLaws.{length_second}
use Rattle.formula.proofs.StaysInRange.{formula_stays}

-- the coefficients of a kind, one more than the highest power
coefficients : (p : ℕ) (ws : List ℤ) → 1 ≤ p → p ≤ length ws → length (take p ws) ≡ suc (p - 1)
coefficients p ws some room = length-take-le p ws room ∙ omega (arith, some)

exact_by_lem : (k : Kind) (s p q mode : ℕ) (ws : List ℤ) (x : ℤ) → Counted k p q mode → word_count k p q ≤ length ws → All NotZero (divisors_by k s p q mode ws x) → exact_by k s p q mode ws x ≡ true → ValueBy k s p q mode ws x (answer_by k s p q mode ws x)
exact_by_lem Polynomial s p q mode ws x counts room apart t = exact_answer_written_out s (take p ws) (p - 1) x (coefficients p ws counts.0 room) t
exact_by_lem Rational s p q mode ws x counts room apart t =
    let m : q ≡ suc (q - 1) = omega (arith, counts) in
    rational_exact_lem s (p - 1) (q - 1) (take p ws) (take q (drop p ws)) x (coefficients p ws counts.0 (omega (arith, room))) (length_second p q ws room ∙ m) apart.0 t
exact_by_lem Fraction s p q mode ws x counts room apart t = fraction_exact_lem s mode ws p x apart t
exact_by_lem Root s p q mode ws x counts room apart t = ap pos (root_exact s x t)
exact_by_lem Odd s p q mode ws x counts room apart t = odd_exact_lem s (take p ws) (p - 1) x (coefficients p ws counts.0 room) t
exact_by_lem Even s p q mode ws x counts room apart t = even_exact_lem s (take p ws) (p - 1) x (coefficients p ws counts.0 room) t
exact_by_lem NoFormula s p q mode ws x counts room apart t = absurd counts

pub formula_exact : (s : ℕ) (h : Shape) (ws : List ℤ) (x : ℤ) → Answerable s h ws x → exact_of s h ws x ≡ true → ValueOf s h ws x (answer_of s h ws x)
formula_exact s h ws x a t = exact_by_lem h.kind s h.p h.q h.mode ws x a.sound.counts a.sound.room (formula_stays s h ws x a).1 t

-- at 0 an odd formula's answer is exact, whatever is stored
pub odd_zero_exact : (s : ℕ) (h : Shape) (ws : List ℤ) → h.kind ≡ Odd → exact_of s h ws (pos 0) ≡ true
odd_zero_exact s h ws e = rw e (odd_at_zero s (take h.p ws))
