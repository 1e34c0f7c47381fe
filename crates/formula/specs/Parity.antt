-- Odd and even formulas, by their kind and by what is stored.
use Rattle.std.specs.Prelude.{◌≡◌, refl, ◌⊎◌, List, [], ◌∷◌, ◌++◌, ℕ, ℤ, pos, nat_abs, take, drop}
use Rattle.std.proofs.Common.{ap, inl, inr, arith}
use Rattle.polynomial.specs.Parity.{OddPowers, EvenPowers, cubic, cubic_is_odd, square, square_is_even}
use Rattle.fraction.specs.Fraction.{b_at}
use Rattle.formula.specs.Formula.{tangent}
use Rattle.formula.specs.declared.Kind.{Kind}
use Rattle.formula.specs.declared.Kind.TheVariants.{Polynomial, Rational, Fraction, Root, Odd, Even, NoFormula}
use Rattle.formula.specs.declared.Shape.{Shape}

-- odd: a polynomial with every even coefficient zero; an odd polynomial over an even one, or the other way round (which is never admitted, for d0 is
-- then 0); a fraction of mode 2 with b0 zero; the kind `odd`
abbrev pub OddBy : Kind → ℕ → ℕ → ℕ → List ℤ → Type 0
OddBy Polynomial p q mode ws = OddPowers (take p ws)
OddBy Rational p q mode ws = (OddPowers (take p ws) × EvenPowers (take q (drop p ws))) ⊎ (EvenPowers (take p ws) × OddPowers (take q (drop p ws)))
OddBy Fraction p q mode ws = (mode ≡ 2) × (b_at ws 0 ≡ pos 0)
OddBy Root p q mode ws = ⊥
OddBy Odd p q mode ws = Unit
OddBy Even p q mode ws = ⊥
OddBy NoFormula p q mode ws = ⊥

abbrev pub OddFormula : Shape → List ℤ → Type 0
OddFormula h ws = OddBy h.kind h.p h.q h.mode ws

-- even: a polynomial with every odd coefficient zero; two even polynomials, or two odd ones, one over the other; a fraction of mode 1; the kind `even`
abbrev pub EvenBy : Kind → ℕ → ℕ → ℕ → List ℤ → Type 0
EvenBy Polynomial p q mode ws = EvenPowers (take p ws)
EvenBy Rational p q mode ws = (EvenPowers (take p ws) × EvenPowers (take q (drop p ws))) ⊎ (OddPowers (take p ws) × OddPowers (take q (drop p ws)))
EvenBy Fraction p q mode ws = mode ≡ 1
EvenBy Root p q mode ws = ⊥
EvenBy Odd p q mode ws = ⊥
EvenBy Even p q mode ws = Unit
EvenBy NoFormula p q mode ws = ⊥

abbrev pub EvenFormula : Shape → List ℤ → Type 0
EvenFormula h ws = EvenBy h.kind h.p h.q h.mode ws

-- ---- worked examples. Of polynomials, as many words as there are coefficients: x + x³ with a word past the last, and with it; 1 + x² likewise
polynomials :
    OddBy Polynomial 4 0 0 (cubic ++ (pos 1 ∷ []))
    × (OddBy Polynomial 5 0 0 (cubic ++ (pos 1 ∷ [])) → ⊥)
    × EvenBy Polynomial 3 0 0 (square ++ (pos 1 ∷ []))
    × (EvenBy Polynomial 4 0 0 (square ++ (pos 1 ∷ [])) → ⊥)
polynomials = (cubic_is_odd, λ f. omega (arith, ap nat_abs (f 2)), square_is_even, λ f. omega (arith, ap nat_abs (f 1)))

-- of rationals, the four pairs, each with a word past the last; an odd one over an even one is not even, and an even one over itself is not odd
rationals :
    (OddBy Rational 4 3 0 (cubic ++ square ++ (pos 1 ∷ [])) × OddBy Rational 3 4 0 (square ++ cubic ++ (pos 1 ∷ [])))
    × (EvenBy Rational 3 3 0 (square ++ square ++ (pos 1 ∷ [])) × EvenBy Rational 4 4 0 (cubic ++ cubic ++ (pos 1 ∷ [])))
    × ((EvenBy Rational 4 3 0 (cubic ++ square) → ⊥) × (OddBy Rational 3 3 0 (square ++ square) → ⊥))
rationals = (
  (inl (cubic_is_odd, square_is_even), inr (square_is_even, cubic_is_odd)),
  (inl (square_is_even, square_is_even), inr (cubic_is_odd, cubic_is_odd)),
  (not_even, not_odd),
)
  where
    not_even : EvenBy Rational 4 3 0 (cubic ++ square) → ⊥
    not_even (inl f) = omega (arith, ap nat_abs (f.0 0))
    not_even (inr f) = omega (arith, ap nat_abs (f.1 0))

    not_odd : OddBy Rational 3 3 0 (square ++ square) → ⊥
    not_odd (inl f) = omega (arith, ap nat_abs (f.0 0))
    not_odd (inr f) = omega (arith, ap nat_abs (f.1 0))

-- of fractions, the tangent's, of which b0 alone is zero: odd in mode 2, even in mode 1, and neither in mode 0; with one for b0, even in mode 1 alone
abbrev raised : List ℤ
raised = pos 16777216 ∷ drop 1 tangent

fractions :
    (OddBy Fraction 2 0 2 tangent × (OddBy Fraction 2 0 1 tangent → ⊥) × (OddBy Fraction 2 0 0 tangent → ⊥) × (OddBy Fraction 2 0 2 raised → ⊥))
    × (EvenBy Fraction 2 0 1 tangent × (EvenBy Fraction 2 0 2 tangent → ⊥) × (EvenBy Fraction 2 0 0 tangent → ⊥) × EvenBy Fraction 2 0 1 raised)
fractions = (
  ((refl, refl), λ f. omega (arith, f.0), λ f. omega (arith, f.0), λ f. omega (arith, ap nat_abs f.1)),
  (refl, λ f. omega (arith, f), λ f. omega (arith, f), refl),
)

-- a root is neither, and neither is what is no formula
neither : (OddBy Root 0 0 0 [] → ⊥) × (EvenBy Root 0 0 0 [] → ⊥) × (OddBy NoFormula 0 0 0 [] → ⊥) × (EvenBy NoFormula 0 0 0 [] → ⊥)
neither = (λ f. f, λ f. f, λ f. f, λ f. f)

-- the kinds `odd` and `even`, each its own, whatever is stored
own_kinds : OddBy Odd 3 0 0 square × (OddBy Even 4 0 0 cubic → ⊥) × EvenBy Even 4 0 0 cubic × (EvenBy Odd 3 0 0 square → ⊥)
own_kinds = (tt, λ f. f, tt, λ f. f)
