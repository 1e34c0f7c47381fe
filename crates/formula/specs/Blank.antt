-- Which formulas are blank, read off what is stored. Each of them answers nought at every argument (`blank_nought`); others may too, and are not blank.
use Rattle.std.specs.Prelude.{◌≡◌, refl, Bool, true, false, cond, List, [], ◌∷◌, ℕ, zero, suc, ◌<◌, eqb, ℤ, pos, negsuc, nat_abs, length, take, get_or}
use Rattle.std.proofs.Common.{arith}
use Rattle.word.specs.Words.{NotZero}
use Rattle.formula.specs.declared.Kind.{Kind}
use Rattle.formula.specs.declared.Kind.TheVariants.{Polynomial, Rational, Fraction, Root, Odd, Even, NoFormula}
use Rattle.formula.specs.declared.Shape.{Shape}

-- each of the numbers is zero
unfoldable pub all_zero : List ℤ → Bool
all_zero [] = true
all_zero (z ∷ zs) = cond (eqb (nat_abs z) 0) (all_zero zs) false

-- a polynomial, odd or even formula whose coefficients are all zero; a rational whose numerator is all zero; a fraction with b0 and a1, which
-- stand first, both zero. A root is never blank
abbrev pub blank_by : Kind → ℕ → List ℤ → Bool
blank_by Polynomial p ws = all_zero (take p ws)
blank_by Rational p ws = all_zero (take p ws)
blank_by Fraction p ws = all_zero (take 2 ws)
blank_by Root p ws = false
blank_by Odd p ws = all_zero (take p ws)
blank_by Even p ws = all_zero (take p ws)
blank_by NoFormula p ws = false

abbrev pub blank_of : Shape → List ℤ → Bool
blank_of h ws = blank_by h.kind h.p ws

-- one of the numbers is not zero
pub record SomeNotZero (ws : List ℤ) : Type 0 where
  pub place : ℕ
  pub within : place < length ws
  pub not_zero : NotZero (get_or ws place (pos 0))

-- ---- worked examples: all zero, and one that is not, of either sign, in each place
three_zeros :
    (all_zero (pos 0 ∷ pos 0 ∷ pos 0 ∷ []) ≡ true)
    × (all_zero (pos 1 ∷ pos 0 ∷ pos 0 ∷ []) ≡ false)
    × (all_zero (pos 0 ∷ negsuc 0 ∷ pos 0 ∷ []) ≡ false)
    × (all_zero (pos 0 ∷ pos 0 ∷ pos 2147483647 ∷ []) ≡ false)
unfolding all_zero
three_zeros = (refl, refl, refl, refl)

-- of a polynomial, odd and even the first p words and no more; one and sixteen of them
abbrev behind : ℕ → List ℤ
behind zero = pos 1 ∷ []
behind (suc n) = pos 0 ∷ behind n

coefficients :
    (blank_by Polynomial 1 (behind 1) ≡ true)
    × (blank_by Polynomial 1 (behind 0) ≡ false)
    × (blank_by Polynomial 16 (behind 16) ≡ true)
    × (blank_by Polynomial 16 (behind 15) ≡ false)
    × (blank_by Odd 2 (behind 2) ≡ true)
    × (blank_by Odd 2 (behind 1) ≡ false)
    × (blank_by Even 2 (behind 2) ≡ true)
    × (blank_by Even 2 (behind 1) ≡ false)
unfolding all_zero
coefficients = (refl, refl, refl, refl, refl, refl, refl, refl)

-- of a rational the numerator alone: 0 + 0·x over 1, and 0 + x over 0
numerators : (blank_by Rational 2 (behind 2) ≡ true) × (blank_by Rational 2 (pos 0 ∷ pos 1 ∷ pos 0 ∷ []) ≡ false)
unfolding all_zero
numerators = (refl, refl)

-- of a fraction b0 and a1, whatever the depth: b1 does not help, either of the two does
first_two :
    (blank_by Fraction 1 (pos 0 ∷ pos 0 ∷ pos 1 ∷ []) ≡ true)
    × (blank_by Fraction 2 (pos 0 ∷ pos 0 ∷ pos 1 ∷ pos 1 ∷ pos 1 ∷ []) ≡ true)
    × (blank_by Fraction 1 (pos 0 ∷ pos 1 ∷ pos 1 ∷ []) ≡ false)
    × (blank_by Fraction 1 (pos 1 ∷ pos 0 ∷ pos 1 ∷ []) ≡ false)
unfolding all_zero
first_two = (refl, refl, refl, refl)

-- a formula's own counts: 0 + 0·x over 1, and 0 over 0 + x
own_counts : (blank_of (record { kind = Rational; p = 2; q = 1; mode = 0 }) (behind 2) ≡ true) × (blank_of (record { kind = Rational; p = 1; q = 2; mode = 0 }) (behind 0) ≡ false)
unfolding all_zero
own_counts = (refl, refl)

-- nor is a root blank, whatever stands there, or what is no formula
never_blank : (blank_by Root 0 [] ≡ false) × (blank_by Root 1 (pos 0 ∷ []) ≡ false) × (blank_by NoFormula 0 [] ≡ false)
never_blank = (refl, refl, refl)

-- the last of two is not zero; of two zeros none is
last_of_two : SomeNotZero (pos 0 ∷ negsuc 0 ∷ [])
last_of_two = record { place = 1; within = omega arith; not_zero = omega arith }

none_of_two : SomeNotZero (pos 0 ∷ pos 0 ∷ []) → ⊥
none_of_two h = at h.place h.not_zero
  where
    at : (i : ℕ) → NotZero (get_or (pos 0 ∷ pos 0 ∷ []) i (pos 0)) → ⊥
    at zero n = omega (arith, n)
    at (suc zero) n = omega (arith, n)
    at (suc (suc i)) n = omega (arith, n)
