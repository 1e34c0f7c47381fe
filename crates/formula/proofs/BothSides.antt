-- An odd formula answers at -x exactly the negated answer, and an even one the same, and both with the same mark: kind by kind. Neither is a root, so
-- neither has steps.
use Rattle.whole.proofs.Basics.{◌≡◌, subst, inl, inr, List, ℕ, take, drop, ℤ, neg_ℤ}
use Rattle.polynomial.proofs.BothSides.{polynomial_negated, polynomial_same, polynomial_mark}
use Rattle.odd_even.proofs.BothSides.{odd_negated, even_same, odd_mark, even_mark}
use Rattle.rational.proofs.BothSides.{odd_over_even, even_over_odd, even_over_even, odd_over_odd, rational_mark}
use Rattle.fraction.proofs.BothSides.{fraction_negated, fraction_same, fraction_mark_negated, fraction_mark_same}
use Rattle.formula.specs.Formula.{answer_by, answer_of, steps_by}
use Rattle.formula.specs.Exact.{exact_by, exact_of}
use Rattle.formula.specs.Parity.{OddBy, OddFormula, EvenBy, EvenFormula}
use Rattle.formula.specs.declared.Kind.{Kind}
use Rattle.formula.specs.declared.Kind.TheVariants.{Polynomial, Rational, Fraction, Root, Odd, Even, NoFormula}
use Rattle.formula.specs.declared.Shape.{Shape}
use Rattle.formula.proofs.FewSteps.{other_kinds}

negated_by : (k : Kind) (s p q mode : ℕ) (ws : List ℤ) (x : ℤ) → OddBy k p q mode ws → answer_by k s p q mode ws (neg_ℤ x) ≡ neg_ℤ (answer_by k s p q mode ws x)
negated_by Polynomial s p q mode ws x h = polynomial_negated s (take p ws) x h
negated_by Rational s p q mode ws x (inl h) = odd_over_even s (take p ws) (take q (drop p ws)) x h.0 h.1
negated_by Rational s p q mode ws x (inr h) = even_over_odd s (take p ws) (take q (drop p ws)) x h.0 h.1
negated_by Fraction s p q mode ws x h = rw h.0 (fraction_negated s ws p x h.1)
negated_by Root s p q mode ws x h = absurd h
negated_by Odd s p q mode ws x h = odd_negated s (take p ws) x
negated_by Even s p q mode ws x h = absurd h
negated_by NoFormula s p q mode ws x h = absurd h

pub formula_negated : (s : ℕ) (h : Shape) (ws : List ℤ) (x : ℤ) → OddFormula h ws → answer_of s h ws (neg_ℤ x) ≡ neg_ℤ (answer_of s h ws x)
formula_negated s h ws x o = negated_by h.kind s h.p h.q h.mode ws x o

same_by : (k : Kind) (s p q mode : ℕ) (ws : List ℤ) (x : ℤ) → EvenBy k p q mode ws → answer_by k s p q mode ws (neg_ℤ x) ≡ answer_by k s p q mode ws x
same_by Polynomial s p q mode ws x h = polynomial_same s (take p ws) x h
same_by Rational s p q mode ws x (inl h) = even_over_even s (take p ws) (take q (drop p ws)) x h.0 h.1
same_by Rational s p q mode ws x (inr h) = odd_over_odd s (take p ws) (take q (drop p ws)) x h.0 h.1
same_by Fraction s p q mode ws x h = rw h (fraction_same s ws p x)
same_by Root s p q mode ws x h = absurd h
same_by Odd s p q mode ws x h = absurd h
same_by Even s p q mode ws x h = even_same s (take p ws) x
same_by NoFormula s p q mode ws x h = absurd h

pub formula_same : (s : ℕ) (h : Shape) (ws : List ℤ) (x : ℤ) → EvenFormula h ws → answer_of s h ws (neg_ℤ x) ≡ answer_of s h ws x
formula_same s h ws x e = same_by h.kind s h.p h.q h.mode ws x e

pub odd_no_steps : (s : ℕ) (h : Shape) (ws : List ℤ) (x : ℤ) → OddFormula h ws → steps_by h.kind s x ≡ 0
odd_no_steps s h ws x o = other_kinds h.kind s x (λ e. subst (λ (k : Kind). OddBy k h.p h.q h.mode ws) e o)

pub even_no_steps : (s : ℕ) (h : Shape) (ws : List ℤ) (x : ℤ) → EvenFormula h ws → steps_by h.kind s x ≡ 0
even_no_steps s h ws x e = other_kinds h.kind s x (λ r. subst (λ (k : Kind). EvenBy k h.p h.q h.mode ws) r e)

-- ---- the mark
odd_mark_by : (k : Kind) (s p q mode : ℕ) (ws : List ℤ) (x : ℤ) → OddBy k p q mode ws → exact_by k s p q mode ws (neg_ℤ x) ≡ exact_by k s p q mode ws x
odd_mark_by Polynomial s p q mode ws x h = polynomial_mark s (take p ws) x (inl h)
odd_mark_by Rational s p q mode ws x (inl h) = rational_mark s (take p ws) (take q (drop p ws)) x (inl h.0) (inr h.1)
odd_mark_by Rational s p q mode ws x (inr h) = rational_mark s (take p ws) (take q (drop p ws)) x (inr h.0) (inl h.1)
odd_mark_by Fraction s p q mode ws x h = rw h.0 (fraction_mark_negated s ws p x)
odd_mark_by Root s p q mode ws x h = absurd h
odd_mark_by Odd s p q mode ws x h = odd_mark s (take p ws) x
odd_mark_by Even s p q mode ws x h = absurd h
odd_mark_by NoFormula s p q mode ws x h = absurd h

pub formula_mark_negated : (s : ℕ) (h : Shape) (ws : List ℤ) (x : ℤ) → OddFormula h ws → exact_of s h ws (neg_ℤ x) ≡ exact_of s h ws x
formula_mark_negated s h ws x o = odd_mark_by h.kind s h.p h.q h.mode ws x o

even_mark_by : (k : Kind) (s p q mode : ℕ) (ws : List ℤ) (x : ℤ) → EvenBy k p q mode ws → exact_by k s p q mode ws (neg_ℤ x) ≡ exact_by k s p q mode ws x
even_mark_by Polynomial s p q mode ws x h = polynomial_mark s (take p ws) x (inr h)
even_mark_by Rational s p q mode ws x (inl h) = rational_mark s (take p ws) (take q (drop p ws)) x (inr h.0) (inr h.1)
even_mark_by Rational s p q mode ws x (inr h) = rational_mark s (take p ws) (take q (drop p ws)) x (inl h.0) (inl h.1)
even_mark_by Fraction s p q mode ws x h = rw h (fraction_mark_same s ws p x)
even_mark_by Root s p q mode ws x h = absurd h
even_mark_by Odd s p q mode ws x h = absurd h
even_mark_by Even s p q mode ws x h = even_mark s (take p ws) x
even_mark_by NoFormula s p q mode ws x h = absurd h

pub formula_mark_same : (s : ℕ) (h : Shape) (ws : List ℤ) (x : ℤ) → EvenFormula h ws → exact_of s h ws (neg_ℤ x) ≡ exact_of s h ws x
formula_mark_same s h ws x e = even_mark_by h.kind s h.p h.q h.mode ws x e
