-- Promise: a formula takes at most 7 steps: a root by Heron's rule, any other kind none.
use Rattle.whole.proofs.Basics.{◌≡◌, refl, ap, List, ℕ, ◌≤◌, arith, ℤ, pos}
use Rattle.root.specs.declared.Rooted.{Rooted}
use Rattle.root.proofs.HeronLaws.{zero_takes_none}
use Rattle.root.proofs.FewSteps.{few_steps}
use Rattle.formula.specs.Formula.{steps_by, worked_of, Answerable}
use Rattle.formula.specs.declared.Kind.{Kind}
use Rattle.formula.specs.declared.Kind.TheVariants.{Polynomial, Rational, Fraction, Root, Odd, Even, NoFormula}
use Rattle.formula.specs.declared.Shape.{Shape}
use Rattle.formula.proofs.ReadyLaws.{root_ready}

pub other_kinds : (k : Kind) (s : ℕ) (x : ℤ) → (k ≡ Root → ⊥) → steps_by k s x ≡ 0
other_kinds Polynomial s x h = refl
other_kinds Rational s x h = refl
other_kinds Fraction s x h = refl
other_kinds Root s x h = absurd (h refl)
other_kinds Odd s x h = refl
other_kinds Even s x h = refl
other_kinds NoFormula s x h = refl

pub formula_steps : (s : ℕ) (h : Shape) (ws : List ℤ) (x : ℤ) → Answerable s h ws x → (worked_of s h ws x).steps ≤ 7
formula_steps s h ws x a = at h.kind refl
  where
    at : (k : Kind) → h.kind ≡ k → steps_by k s x ≤ 7
    at Polynomial e = omega arith
    at Rational e = omega arith
    at Fraction e = omega arith
    at Root e = few_steps s x (root_ready s h ws x a e)
    at Odd e = omega arith
    at Even e = omega arith
    at NoFormula e = omega arith

-- and none at 0
pub none_at_zero : (k : Kind) (s : ℕ) → steps_by k s (pos 0) ≡ 0
none_at_zero Polynomial s = refl
none_at_zero Rational s = refl
none_at_zero Fraction s = refl
none_at_zero Root s = ap (λ (r : Rooted). r.steps) (zero_takes_none s)
none_at_zero Odd s = refl
none_at_zero Even s = refl
none_at_zero NoFormula s = refl
