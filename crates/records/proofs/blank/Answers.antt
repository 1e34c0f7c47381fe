-- `records::blank` meets its contract: the first words of those kinds that look at as many as their first count.
use Rattle.whole.proofs.Basics.{◌≡◌, ◌∙◌, refl, sym, ap, List, ℕ, ℤ, take, inl, inr, ◌⊎◌}
use Rattle.stored.proofs.ValuesLaws.{values_take}
use Rattle.formula.specs.declared.Kind.{Kind}
use Rattle.formula.specs.declared.Kind.TheVariants.{Polynomial, Rational, Odd, Even}
use Rattle.formula.specs.Blank.{all_zero, blank_by}
use Rattle.records.proofs.blank.Goals as goal

by_count : (k : Kind) (p : ℕ) (ws : List ℤ) → (k ≡ Polynomial) ⊎ ((k ≡ Rational) ⊎ ((k ≡ Odd) ⊎ (k ≡ Even))) → all_zero (take p ws) ≡ blank_by k p ws
by_count k p ws (inl e) = rw e refl
by_count k p ws (inr (inl e)) = rw e refl
by_count k p ws (inr (inr (inl e))) = rw e refl
by_count k p ws (inr (inr (inr e))) = rw e refl

pub returns-in-Polynomial : goal.returns-in-Polynomial
returns-in-Polynomial c = c.all_zero.ensures ∙ ap all_zero (values_take c.args.shape.p c.args.words.now) ∙ by_count c.args.shape.kind c.args.shape.p _ c.in-Polynomial.is
