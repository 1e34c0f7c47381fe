-- A formula: its shape (kind, counts, mode), its interval lo..hi and its stored words. The binary places are s.
use Rattle.std.specs.Prelude.{◌≡◌, refl, Bool, true, false, cond, List, [], ◌∷◌, ℕ, ◌+◌, ◌≤◌, ltb, ℤ, pos, negsuc, nat_abs, ◌≤ℤ◌, length, take, drop}
use Rattle.std.proofs.Common.{arith, lit≤}
use Rattle.word.specs.Rounded.{rounded, rounded_up}
use Rattle.word.specs.Words.{Word, Scale}
use Rattle.root.specs.Root.{root_in, root_word}
use Rattle.root.specs.Heron.{digits_in, heron_from, rooted_by}
use Rattle.word.specs.Lists.{Words}
use Rattle.stored.specs.Words.{words, Stretch}
use Rattle.polynomial.specs.Polynomial.{horner, polynomial_numbers, bound_of, polynomial_admission}
use Rattle.polynomial.specs.Exact.{polynomial_exact}
use Rattle.odd_even.specs.OddEven.{even_of, odd_of, even_numbers, odd_numbers, even_admission, odd_admission}
use Rattle.rational.specs.Rational.{rational_of, rational_numbers, rational_divisors, rational_admission}
use Rattle.fraction.specs.Fraction.{outward_numbers, outward_divisors, fraction_of, fraction_numbers, fraction_divisors}
use Rattle.fraction.specs.Admission.{fraction_admission}
use Rattle.formula.specs.Exact.{exact_of}
use Rattle.formula.specs.declared.Kind.{Kind}
use Rattle.formula.specs.declared.Kind.TheVariants.{Polynomial, Rational, Fraction, Root, Odd, Even, NoFormula}
use Rattle.formula.specs.declared.Shape.{Shape}
use Rattle.formula.specs.declared.Worked.{Worked}
use Rattle.admission.specs.Admission.{Admission, granted, range_left}

-- ---- the answer at x, by the kind. A root is the number that Heron's rule ends with: `heron_is` of the crate `root`
abbrev pub answer_by : Kind → ℕ → ℕ → ℕ → ℕ → List ℤ → ℤ → ℤ
answer_by Polynomial s p q mode ws x = horner s (take p ws) x
answer_by Rational s p q mode ws x = rational_of s (take p ws) (take q (drop p ws)) x
answer_by Fraction s p q mode ws x = fraction_of s mode ws p x
answer_by Root s p q mode ws x = root_word s x
answer_by Odd s p q mode ws x = odd_of s (take p ws) x
answer_by Even s p q mode ws x = even_of s (take p ws) x
answer_by NoFormula s p q mode ws x = pos 0

abbrev pub answer_of : ℕ → Shape → List ℤ → ℤ → ℤ
answer_of s h ws x = answer_by h.kind s h.p h.q h.mode ws x

-- ---- the steps beside it: those of Heron's rule to a root; the other kinds take none
abbrev pub steps_by : Kind → ℕ → ℤ → ℕ
steps_by Polynomial s x = 0
steps_by Rational s x = 0
steps_by Fraction s x = 0
steps_by Root s x = (rooted_by s x).steps
steps_by Odd s x = 0
steps_by Even s x = 0
steps_by NoFormula s x = 0

abbrev pub worked : ℤ → ℕ → Bool → Worked
worked w n e = record { word = w; steps = n; exact = e }

-- ---- the answer with its steps and its mark
abbrev pub worked_of : ℕ → Shape → List ℤ → ℤ → Worked
worked_of s h ws x = worked (answer_of s h ws x) (steps_by h.kind s x) (exact_of s h ws x)

-- ---- the numbers on the way to the answer: each rounded product, quotient and sum; of a root, the answer itself
abbrev pub numbers_by : Kind → ℕ → ℕ → ℕ → ℕ → List ℤ → ℤ → List ℤ
numbers_by Polynomial s p q mode ws x = polynomial_numbers s (take p ws) x
numbers_by Rational s p q mode ws x = rational_numbers s (take p ws) (take q (drop p ws)) x
numbers_by Fraction s p q mode ws x = fraction_numbers s mode ws p x
numbers_by Root s p q mode ws x = root_word s x ∷ []
numbers_by Odd s p q mode ws x = odd_numbers s (take p ws) x
numbers_by Even s p q mode ws x = even_numbers s (take p ws) x
numbers_by NoFormula s p q mode ws x = []

abbrev pub numbers_of : ℕ → Shape → List ℤ → ℤ → List ℤ
numbers_of s h ws x = numbers_by h.kind s h.p h.q h.mode ws x

-- the divisors on the way
abbrev pub divisors_by : Kind → ℕ → ℕ → ℕ → ℕ → List ℤ → ℤ → List ℤ
divisors_by Polynomial s p q mode ws x = []
divisors_by Rational s p q mode ws x = rational_divisors s (take q (drop p ws)) x
divisors_by Fraction s p q mode ws x = fraction_divisors s mode ws p x
divisors_by Root s p q mode ws x = []
divisors_by Odd s p q mode ws x = []
divisors_by Even s p q mode ws x = []
divisors_by NoFormula s p q mode ws x = []

abbrev pub divisors_of : ℕ → Shape → List ℤ → ℤ → List ℤ
divisors_of s h ws x = divisors_by h.kind s h.p h.q h.mode ws x

-- ---- admission. A is the larger of |lo| and |hi|
abbrev pub most_of : ℤ → ℤ → ℕ
most_of lo hi = cond (ltb (nat_abs lo) (nat_abs hi)) (nat_abs hi) (nat_abs lo)

-- a root is always admitted; what is no formula never is
abbrev pub admission_by : Kind → ℕ → ℕ → ℕ → ℕ → ℕ → List ℤ → Admission
admission_by Polynomial s A p q mode ws = polynomial_admission s A (take p ws)
admission_by Rational s A p q mode ws = rational_admission s A (take p ws) (take q (drop p ws))
admission_by Fraction s A p q mode ws = fraction_admission s A mode ws p
admission_by Root s A p q mode ws = granted
admission_by Odd s A p q mode ws = odd_admission s A (take p ws)
admission_by Even s A p q mode ws = even_admission s A (take p ws)
admission_by NoFormula s A p q mode ws = range_left

abbrev pub admission_of : ℕ → Shape → ℤ → ℤ → List ℤ → Admission
admission_of s h lo hi ws = admission_by h.kind s (most_of lo hi) h.p h.q h.mode ws

-- ---- the stored values, as refusals 2 and 6 leave them. The counts of each kind in their ranges, and a mode that there is
abbrev pub Counted : Kind → ℕ → ℕ → ℕ → Type 0
Counted Polynomial p q mode = (1 ≤ p) × (p ≤ 16)
Counted Rational p q mode = (1 ≤ p) × (p ≤ 12) × (1 ≤ q) × (q ≤ 12)
Counted Fraction p q mode = (1 ≤ p) × (p ≤ 12) × (mode ≤ 2)
Counted Root p q mode = Unit
Counted Odd p q mode = (1 ≤ p) × (p ≤ 16)
Counted Even p q mode = (1 ≤ p) × (p ≤ 16)
Counted NoFormula p q mode = ⊥

-- how many words a kind has
abbrev pub word_count : Kind → ℕ → ℕ → ℕ
word_count Polynomial p q = p
word_count Rational p q = p + q
word_count Fraction p q = p + p + 1
word_count Root p q = 0
word_count Odd p q = p
word_count Even p q = p
word_count NoFormula p q = 0

-- the words of a formula that stand in bytes from a place on, and that the bytes reach so far
abbrev pub stored_words : Shape → List ℕ → ℕ → List ℤ
stored_words h b at = words b at (word_count h.kind h.p h.q)

abbrev pub Stored : Shape → List ℕ → ℕ → Type 0
Stored h b at = Stretch b at (word_count h.kind h.p h.q)

-- a root's interval is not below 0
abbrev pub RootInterval : Kind → ℤ → Type 0
RootInterval Polynomial lo = Unit
RootInterval Rational lo = Unit
RootInterval Fraction lo = Unit
RootInterval Root lo = pos 0 ≤ℤ lo
RootInterval Odd lo = Unit
RootInterval Even lo = Unit
RootInterval NoFormula lo = Unit

pub record Sound (h : Shape) (lo hi : ℤ) (ws : List ℤ) : Type 0 where
  pub counts : Counted h.kind h.p h.q h.mode
  pub room : word_count h.kind h.p h.q ≤ length ws
  pub words : Words ws
  pub low : Word lo
  pub high : Word hi
  pub order : lo ≤ℤ hi
  pub rooted : RootInterval h.kind lo

-- ---- what the answer asks of its callers: a sound, admitted formula, and an argument in its interval
pub record Answerable (s : ℕ) (h : Shape) (ws : List ℤ) (x : ℤ) : Type 0 where
  pub scale : Scale s
  pub lo : ℤ
  pub hi : ℤ
  pub sound : Sound h lo hi ws
  pub admitted : admission_of s h lo hi ws ≡ granted
  pub above : lo ≤ℤ x
  pub below : x ≤ℤ hi

-- ---- worked examples: A of an interval on both sides of 0; a root's number on the way is its answer, 2 of 4, and it has no divisor
both_sides : (most_of (negsuc 2) (pos 2) ≡ 3) × (most_of (negsuc 1) (pos 3) ≡ 3) × (most_of (pos 1) (pos 2) ≡ 2)
both_sides = (refl, refl, refl)

root_numbers :
    (answer_by Root 24 0 0 0 [] (pos 67108864) ≡ pos 33554432)
    × (numbers_by Root 24 0 0 0 [] (pos 67108864) ≡ pos 33554432 ∷ [])
    × (divisors_by Root 24 0 0 0 [] (pos 67108864) ≡ [])
unfolding root_in
root_numbers = (refl, refl, refl)

-- a root tells its steps, 6 of four, 5 of two and none of 0, and of the word 1 at 16 places 4; the constant 3 tells none, and neither do the other kinds.
-- That of two is rounded, and so is half a step; at 16 places a step times one is exact
steps_and_marks :
    (worked_of 24 (record { kind = Root; p = 0; q = 0; mode = 0 }) [] (pos 67108864) ≡ worked (pos 33554432) 6 true)
    × (worked_of 24 (record { kind = Root; p = 0; q = 0; mode = 0 }) [] (pos 33554432) ≡ worked (pos 23726566) 5 false)
    × (worked_of 24 (record { kind = Root; p = 0; q = 0; mode = 0 }) [] (pos 0) ≡ worked (pos 0) 0 true)
    × (worked_of 16 (record { kind = Root; p = 0; q = 0; mode = 0 }) [] (pos 1) ≡ worked (pos 256) 4 true)
    × (worked_of 24 (record { kind = Polynomial; p = 1; q = 0; mode = 0 }) (pos 3 ∷ []) (pos 67108864) ≡ worked (pos 3) 0 true)
    × (worked_of 24 (record { kind = Polynomial; p = 2; q = 0; mode = 0 }) (pos 3 ∷ pos 8388608 ∷ []) (pos 1) ≡ worked (pos 4) 0 false)
    × (worked_of 16 (record { kind = Polynomial; p = 2; q = 0; mode = 0 }) (pos 0 ∷ pos 1 ∷ []) (pos 65536) ≡ worked (pos 1) 0 true)
unfolding root_in heron_from digits_in horner polynomial_exact rounded
steps_and_marks = (refl, refl, refl, refl, refl, refl, refl)

worked_fields : (worked (pos 3) 5 true ≡ record { word = pos 3; steps = 5; exact = true }) × (worked (pos 3) 5 false ≡ record { word = pos 3; steps = 5; exact = false })
worked_fields = (refl, refl)

no_steps :
    (steps_by Polynomial 24 (pos 67108864) ≡ 0)
    × (steps_by Rational 24 (pos 67108864) ≡ 0)
    × (steps_by Fraction 24 (pos 67108864) ≡ 0)
    × (steps_by Odd 24 (pos 67108864) ≡ 0)
    × (steps_by Even 24 (pos 67108864) ≡ 0)
    × (steps_by NoFormula 24 (pos 67108864) ≡ 0)
no_steps = (refl, refl, refl, refl, refl, refl)

abbrev pub tangent : List ℤ
tangent = pos 0 ∷ pos 16777216 ∷ pos 16777216 ∷ negsuc 16777215 ∷ pos 50331648 ∷ []

-- each kind's numbers and divisors are its own: 1 + x at one; 1 + x over 2 - x at one; the tangent's fraction at a half
own_numbers :
    (numbers_by Polynomial 24 2 0 0 (pos 16777216 ∷ pos 16777216 ∷ []) (pos 16777216) ≡ pos 16777216 ∷ pos 33554432 ∷ pos 0 ∷ pos 16777216 ∷ [])
    × (numbers_by Rational 24 2 2 0 (pos 16777216 ∷ pos 16777216 ∷ pos 33554432 ∷ negsuc 16777215 ∷ []) (pos 16777216)
    ≡ pos 16777216 ∷ pos 33554432 ∷ pos 0 ∷ pos 16777216 ∷ negsuc 16777215 ∷ pos 16777216 ∷ pos 0 ∷ negsuc 16777215 ∷ pos 33554432 ∷ [])
    × (numbers_by Fraction 24 2 0 2 tangent (pos 8388608) ≡ pos 4194304 ∷ negsuc 4194303 ∷ negsuc 1398100 ∷ pos 15379115 ∷ pos 8388608 ∷ pos 9151209 ∷ pos 9151209 ∷ [])
unfolding horner polynomial_numbers outward_numbers rounded
own_numbers = (refl, refl, refl)

own_divisors :
    (divisors_by Rational 24 2 2 0 (pos 16777216 ∷ pos 16777216 ∷ pos 33554432 ∷ negsuc 16777215 ∷ []) (pos 16777216) ≡ pos 16777216 ∷ [])
    × (divisors_by Fraction 24 2 0 2 tangent (pos 8388608) ≡ pos 50331648 ∷ pos 15379115 ∷ [])
unfolding horner outward_divisors rounded
own_divisors = (refl, refl)

-- odd and even are not each other: 1 - q/2 for the square q, at a half, with a word past the last; and c0 of 64 up to two, where odd's last product is
-- one above M, and even has none
abbrev bend : List ℤ
bend = pos 16777216 ∷ negsuc 8388607 ∷ pos 16777216 ∷ []

odd_and_even :
    (answer_by Odd 24 2 0 0 bend (pos 8388608) ≡ pos 7340032)
    × (answer_by Even 24 2 0 0 bend (pos 8388608) ≡ pos 14680064)
    × (numbers_by Odd 24 2 0 0 bend (pos 8388608) ≡ pos 7340032 ∷ pos 4194304 ∷ negsuc 2097151 ∷ pos 14680064 ∷ pos 0 ∷ negsuc 8388607 ∷ [])
    × (numbers_by Even 24 2 0 0 bend (pos 8388608) ≡ pos 4194304 ∷ negsuc 2097151 ∷ pos 14680064 ∷ pos 0 ∷ negsuc 8388607 ∷ [])
    × (admission_by Odd 24 33554432 1 0 0 (pos 1073741824 ∷ []) ≡ range_left)
    × (admission_by Even 24 33554432 1 0 0 (pos 1073741824 ∷ []) ≡ granted)
unfolding horner polynomial_numbers bound_of rounded rounded_up
odd_and_even = (refl, refl, refl, refl, refl, refl)

-- as many words as p, whatever q is, and no divisors
words_and_divisors :
    (word_count Odd 2 3 ≡ 2)
    × (word_count Even 2 3 ≡ 2)
    × (divisors_by Odd 24 2 0 0 bend (pos 8388608) ≡ [])
    × (divisors_by Even 24 2 0 0 bend (pos 8388608) ≡ [])
words_and_divisors = (refl, refl, refl, refl)

-- 1 to 16 coefficients of each, as of a polynomial; and intervals below 0
one_to_sixteen :
    (Counted Polynomial 1 0 0 × Counted Polynomial 16 0 0)
    × (Counted Odd 1 0 0 × Counted Odd 16 0 0)
    × (Counted Even 1 0 0 × Counted Even 16 0 0)
one_to_sixteen = (
  ((lit≤ tt, lit≤ tt), (lit≤ tt, lit≤ tt)),
  ((lit≤ tt, lit≤ tt), (lit≤ tt, lit≤ tt)),
  ((lit≤ tt, lit≤ tt), (lit≤ tt, lit≤ tt)),
)

nor_none_nor_seventeen :
    ((Counted Polynomial 0 0 0 → ⊥) × (Counted Polynomial 17 0 0 → ⊥))
    × ((Counted Odd 0 0 0 → ⊥) × (Counted Odd 17 0 0 → ⊥))
    × ((Counted Even 0 0 0 → ⊥) × (Counted Even 17 0 0 → ⊥))
nor_none_nor_seventeen = (
  (λ h. omega (arith, h), λ h. omega (arith, h)),
  (λ h. omega (arith, h), λ h. omega (arith, h)),
  (λ h. omega (arith, h), λ h. omega (arith, h)),
)

below_zero_lem : RootInterval Odd (negsuc 0) × RootInterval Even (negsuc 0)
below_zero_lem = (tt, tt)
