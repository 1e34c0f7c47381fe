-- The mark of a formula's answer, by its kind, and the exact value that an answer so marked is.
use Rattle.std.specs.Prelude.{◌≡◌, refl, Bool, true, false, List, [], ◌∷◌, ℕ, ◌+◌, ◌*◌, ◌-◌, ◌^◌, ℤ, pos, nat_abs, ◌*ℤ◌, take, drop}
use Rattle.std.proofs.Math.IntN.{pow, one}
use Rattle.word.specs.Rounded.{rounded}
use Rattle.word.specs.Words.{NotZero, unit}
use Rattle.root.specs.Root.{root_in, exact_root}
use Rattle.polynomial.specs.Polynomial.{horner}
use Rattle.polynomial.specs.Distance.{sum_below_ℤ, exact_sum}
use Rattle.polynomial.specs.Exact.{polynomial_exact}
use Rattle.odd_even.specs.Exact.{even_exact, odd_exact, even_value, odd_value}
use Rattle.rational.specs.Exact.{rational_exact}
use Rattle.fraction.specs.Exact.{outward_exact, fraction_exact, outward_ratio, fraction_ratio, Equals}
use Rattle.formula.specs.declared.Kind.{Kind}
use Rattle.formula.specs.declared.Kind.TheVariants.{Polynomial, Rational, Fraction, Root, Odd, Even, NoFormula}
use Rattle.formula.specs.declared.Shape.{Shape}

-- exact where no product or quotient was rounded; a root where its square is the scaled argument
abbrev pub exact_by : Kind → ℕ → ℕ → ℕ → ℕ → List ℤ → ℤ → Bool
exact_by Polynomial s p q mode ws x = polynomial_exact s (take p ws) x
exact_by Rational s p q mode ws x = rational_exact s (take p ws) (take q (drop p ws)) x
exact_by Fraction s p q mode ws x = fraction_exact s mode ws p x
exact_by Root s p q mode ws x = exact_root s x
exact_by Odd s p q mode ws x = odd_exact s (take p ws) x
exact_by Even s p q mode ws x = even_exact s (take p ws) x
exact_by NoFormula s p q mode ws x = true

abbrev pub exact_of : ℕ → Shape → List ℤ → ℤ → Bool
exact_of s h ws x = exact_by h.kind s h.p h.q h.mode ws x

-- ---- that the word a is the formula's exact value at x, in steps, with every denominator multiplied out. With x in ones a polynomial's is c0 + c1·x + ..,
-- an even one's that of x², an odd one's x times that; a rational's is 2^s·N/D, a fraction's `fraction_ratio`; a root's square is x·2^s
abbrev pub ValueBy : Kind → ℕ → ℕ → ℕ → ℕ → List ℤ → ℤ → ℤ → Type 0
ValueBy Polynomial s p q mode ws x a = a *ℤ pos (2 ^ (s * (p - 1))) ≡ exact_sum s (take p ws) (p - 1) x
ValueBy Rational s p q mode ws x a = (a *ℤ exact_sum s (take q (drop p ws)) (q - 1) x *ℤ pos (2 ^ (s * (p - 1))) ≡ pos (2 ^ s) *ℤ exact_sum s (take p ws) (p - 1) x *ℤ pos (2 ^ (s * (q - 1)))) × NotZero (exact_sum s (take q (drop p ws)) (q - 1) x)
ValueBy Fraction s p q mode ws x a = Equals a (fraction_ratio s mode ws p x)
ValueBy Root s p q mode ws x a = a *ℤ a ≡ pos (nat_abs x * unit s)
ValueBy Odd s p q mode ws x a = a *ℤ (pos (2 ^ ((s + s) * (p - 1))) *ℤ pos (2 ^ s)) ≡ odd_value s (take p ws) (p - 1) x
ValueBy Even s p q mode ws x a = a *ℤ pos (2 ^ ((s + s) * (p - 1))) ≡ even_value s (take p ws) (p - 1) x
ValueBy NoFormula s p q mode ws x a = a ≡ pos 0

abbrev pub ValueOf : ℕ → Shape → List ℤ → ℤ → ℤ → Type 0
ValueOf s h ws x a = ValueBy h.kind s h.p h.q h.mode ws x a

-- ---- worked examples: as many words as there are coefficients. Half a step is rounded by the second of them, and not by a word past the last
as_many_words :
    (exact_by Polynomial 24 2 0 0 (pos 3 ∷ pos 8388608 ∷ []) (pos 1) ≡ false)
    × (exact_by Polynomial 24 1 0 0 (pos 3 ∷ pos 8388608 ∷ []) (pos 1) ≡ true)
    × (exact_by Polynomial 24 2 0 0 (pos 0 ∷ pos 16777216 ∷ []) (pos 1) ≡ true)
    × (exact_by Rational 24 1 2 0 (pos 0 ∷ pos 3 ∷ pos 8388608 ∷ []) (pos 1) ≡ false)
    × (exact_by Rational 24 1 1 0 (pos 0 ∷ pos 3 ∷ pos 8388608 ∷ []) (pos 1) ≡ true)
    × (exact_by Rational 24 2 1 0 (pos 0 ∷ pos 8388608 ∷ pos 16777216 ∷ []) (pos 1) ≡ false)
unfolding polynomial_exact horner rounded
as_many_words = (refl, refl, refl, refl, refl, refl)

-- odd and even are not each other: half a step's odd product is rounded, and even has none; the square of one step counts from two coefficients on
odd_and_even :
    (exact_by Odd 24 1 0 0 (pos 8388608 ∷ pos 8388608 ∷ []) (pos 1) ≡ false)
    × (exact_by Even 24 1 0 0 (pos 8388608 ∷ pos 8388608 ∷ []) (pos 1) ≡ true)
    × (exact_by Odd 24 2 0 0 (pos 16777216 ∷ pos 0 ∷ []) (pos 1) ≡ false)
    × (exact_by Odd 24 1 0 0 (pos 16777216 ∷ pos 0 ∷ []) (pos 1) ≡ true)
    × (exact_by Even 24 2 0 0 (pos 8388608 ∷ pos 0 ∷ []) (pos 1) ≡ false)
unfolding polynomial_exact horner rounded
odd_and_even = (refl, refl, refl, refl, refl)

-- a fraction by its mode and depth: one step, whose square is rounded
fractions :
    (exact_by Fraction 24 1 0 2 (pos 0 ∷ pos 16777216 ∷ pos 16777216 ∷ []) (pos 1) ≡ true)
    × (exact_by Fraction 24 1 0 1 (pos 0 ∷ pos 16777216 ∷ pos 16777216 ∷ []) (pos 1) ≡ false)
    × (exact_by Fraction 24 2 0 2 (pos 0 ∷ pos 16777216 ∷ pos 16777216 ∷ pos 0 ∷ pos 16777216 ∷ []) (pos 1) ≡ false)
unfolding outward_exact rounded
fractions = (refl, refl, refl)

-- roots, at 24 places and at 17
roots : (exact_by Root 24 0 0 0 [] (pos 37748736) ≡ true) × (exact_by Root 24 0 0 0 [] (pos 33554432) ≡ false) × (exact_by Root 17 0 0 0 [] (pos 1) ≡ false)
unfolding root_in
roots = (refl, refl, refl)

-- what is no formula rounds nothing
no_formula_lem : exact_by NoFormula 24 0 0 0 [] (pos 0) ≡ true
no_formula_lem = refl

-- what a value is, said of words that are none: half a step; two steps by three; 2 + 3·7/5; the root of two steps; 9, and 27, for the square of 3
what_is_said :
    (ValueBy Polynomial 24 2 0 0 (pos 0 ∷ pos 8388608 ∷ []) (pos 1) (pos 1) ≡ (pos 16777216 ≡ pos 8388608))
    × (ValueBy Rational 24 1 1 0 (pos 2 ∷ pos 3 ∷ []) (pos 0) (pos 5) ≡ ((pos 15 ≡ pos 33554432) × NotZero (pos 3)))
    × (ValueBy Fraction 24 1 0 0 (pos 2 ∷ pos 3 ∷ pos 5 ∷ []) (pos 7) (pos 11) ≡ ((pos 55 ≡ pos 31) × NotZero (pos 5)))
    × (ValueBy Root 24 0 0 0 [] (pos 2) (pos 3) ≡ (pos 9 ≡ pos 33554432))
    × (ValueBy Even 24 2 0 0 (pos 0 ∷ pos 1 ∷ []) (pos 3) (pos 5) ≡ (pos (5 * 2 ^ 48) ≡ pos 9))
    × (ValueBy Odd 24 2 0 0 (pos 0 ∷ pos 1 ∷ []) (pos 3) (pos 5) ≡ (pos (5 * 2 ^ 72) ≡ pos 27))
unfolding sum_below_ℤ outward_ratio pow one
what_is_said = (refl, refl, refl, refl, refl, refl)

-- one and a half times itself is two and a quarter; 1 + x/2 at a half is one and a quarter; with a word past the last
some_values : ValueBy Root 24 0 0 0 [] (pos 37748736) (pos 25165824) × ValueBy Polynomial 24 2 0 0 (pos 16777216 ∷ pos 8388608 ∷ pos 1 ∷ []) (pos 8388608) (pos 20971520)
unfolding sum_below_ℤ pow one
some_values = (refl, refl)
