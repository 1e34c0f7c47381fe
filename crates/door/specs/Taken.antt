-- A double taken as a word, at s binary places, and whether the word is the double's own value; document 01 has s = 24.
use Rattle.std.specs.Prelude.{◌≡◌, refl, Bool, true, false, cond, ℕ, ◌*◌, ℤ, pos, negsuc, neg_ℤ, nat_abs, ◌*ℤ◌, leb, Float, Err, Result, Ok}
use Rattle.std.proofs.Common.{ap}
use Rattle.std.specs.Float.{nan, inf, fin, binary64}
use Rattle.std.specs.Float.Ieee.{up, down, of_bits}
use Rattle.std.proofs.lemmas.Bool.{eqb-false}
use Rattle.word.specs.Rounded.{rounded}
use Rattle.word.specs.Words.{largest, unit, with_sign}
use Rattle.word.specs.Exact.{divides}
use Rattle.refusal.specs.declared.Fault.TheVariants.{Outside, NotFinite}
use Rattle.refusal.specs.declared.Fault.{Fault}
use Rattle.refusal.specs.Guard.{number_of}
use Rattle.word.specs.declared.Argument.{Argument}

-- A finite double is `fin t m e`, m · 2^e with the sign t, as its sign, exponent and fraction bits say; 2^e is up e / down e, one of which is 1.
-- So its exact value times 2^s is `numerator s t m e` divided by `down e`, which is 1 or a power of two.
abbrev pub numerator : ℕ → Bool → ℕ → ℤ → ℤ
numerator s t m e = with_sign t (pos (m * up e * unit s))

-- the argument: that fraction, rounded as a product is
abbrev pub argument_of : ℕ → Bool → ℕ → ℤ → ℤ
argument_of s t m e = rounded (numerator s t m e) (down e)

-- it is exact where the fraction is a whole number, so that nothing was rounded
abbrev pub argument_exact : ℕ → Bool → ℕ → ℤ → Bool
argument_exact s t m e = divides (down e) (numerator s t m e)

-- what is taken: a word with its mark; or 10 for no word, 13 for what is not finite
abbrev pub Taken : Type 0
Taken = Result Argument Fault

abbrev pub took : ℤ → Bool → Taken
took w exact = Ok (record { word = w; exact = exact })

-- a whole number is taken, with its mark, where it is a word
abbrev pub as_word : ℤ → Bool → Taken
as_word z exact = cond (leb (nat_abs z) largest) (took z exact) (Err Outside)

-- what is taken from a double
unfoldable pub taken_of : ℕ → Float → Taken
taken_of s nan = (Err NotFinite)
taken_of s (inf t) = (Err NotFinite)
taken_of s (fin t m e) = as_word (argument_of s t m e) (argument_exact s t m e)

-- The double's own exact value times 2^s is z: z is the fraction above, multiplied out. What is not finite has no value.
-- Exactly where this holds of a word, it is taken and marked exact (`taken_exact_lem` and `exact_taken` of proofs/ExactArgument.antt).
abbrev pub ValueIs : ℕ → Float → ℤ → Type 0
ValueIs s nan z = ⊥
ValueIs s (inf t) z = ⊥
ValueIs s (fin t m e) z = z *ℤ pos (down e) ≡ numerator s t m e

-- with the word negated; its mark stays, and so does a refusal
abbrev pub negated_taken : Taken → Taken
negated_taken (Ok a) = took (neg_ℤ a.word) a.exact
negated_taken (Err fault) = Err fault

-- the paper's number of each case, 0 where there is no refusal, its place, the word, 0 where there is none, and its mark
abbrev pub taken_number : Taken → ℕ
taken_number (Ok a) = 0
taken_number (Err fault) = number_of fault

abbrev pub taken_place : Taken → ℕ
taken_place t = 0

abbrev pub taken_word : Taken → ℤ
taken_word (Ok a) = a.word
taken_word (Err fault) = pos 0

abbrev pub taken_exact : Taken → Bool
taken_exact (Ok a) = a.exact
taken_exact (Err fault) = false

-- ---- worked examples. Half a step, 2^-25, is a tie, and so are -1/2 and -3/2 of a step
half_steps :
    (taken_of 24 (fin false 1 (negsuc 24)) ≡ took (pos 1) false)
    × (taken_of 24 (fin true 1 (negsuc 24)) ≡ took (negsuc 0) false)
    × (taken_of 24 (fin true 3 (negsuc 24)) ≡ took (negsuc 1) false)
unfolding taken_of rounded
half_steps = (refl, refl, refl)

-- 1.5 and -1.5, by their bit patterns: nothing is rounded
one_and_a_half :
    (taken_of 24 (of_bits binary64 0x3ff8000000000000) ≡ took (pos 25165824) true)
    × (taken_of 24 (of_bits binary64 0xbff8000000000000) ≡ took (negsuc 25165823) true)
unfolding taken_of rounded of_bits
one_and_a_half = (refl, refl)

-- one step, and 96, which is 3·2^5, are whole numbers of steps; a step and a quarter is not, of either sign
whole_steps :
    (taken_of 24 (fin false 1 (negsuc 23)) ≡ took (pos 1) true)
    × (taken_of 24 (fin false 3 (pos 5)) ≡ took (pos 1610612736) true)
    × (taken_of 24 (fin false 5 (negsuc 25)) ≡ took (pos 1) false)
    × (taken_of 24 (fin true 5 (negsuc 25)) ≡ took (negsuc 0) false)
unfolding taken_of rounded
whole_steps = (refl, refl, refl, refl)

-- 2^-20 is 16 steps of 2^-24, and a part of one of 2^-16; 2^-28 is a part of a step of 2^-24, and one at 28 places
at_other_places :
    (taken_of 24 (fin false 1 (negsuc 19)) ≡ took (pos 16) true)
    × (taken_of 16 (fin false 1 (negsuc 19)) ≡ took (pos 0) false)
    × (taken_of 24 (fin false 1 (negsuc 27)) ≡ took (pos 0) false)
    × (taken_of 28 (fin false 1 (negsuc 27)) ≡ took (pos 1) true)
unfolding taken_of rounded
at_other_places = (refl, refl, refl, refl)

-- the smallest double above zero, which is subnormal, is rounded; minus zero and plus zero are not
smallest : taken_of 24 (of_bits binary64 1) ≡ took (pos 0) false
unfolding taken_of rounded of_bits
smallest = refl

zeros : (taken_of 24 (fin true 0 (pos 0)) ≡ took (pos 0) true) × (taken_of 24 (fin false 0 (pos 0)) ≡ took (pos 0) true)
unfolding taken_of rounded
zeros = (refl, refl)

-- the largest word, and the least; half a step nearer to zero each is rounded to the word itself, half a step further out there is no word
at_the_ends :
    (taken_of 24 (fin false 2147483647 (negsuc 23)) ≡ took (pos 2147483647) true)
    × (taken_of 24 (fin true 2147483647 (negsuc 23)) ≡ took (negsuc 2147483646) true)
    × (taken_of 24 (fin false 4294967293 (negsuc 24)) ≡ took (pos 2147483647) false)
    × (taken_of 24 (fin true 4294967293 (negsuc 24)) ≡ took (negsuc 2147483646) false)
    × (taken_of 24 (fin false 4294967295 (negsuc 24)) ≡ (Err Outside))
    × (taken_of 24 (fin true 4294967295 (negsuc 24)) ≡ (Err Outside))
unfolding taken_of rounded
at_the_ends = (refl, refl, refl, refl, refl, refl)

-- a word has no refusal, and what is refused has no word and is not exact
with_word :
    (taken_number (took (pos 1) true) ≡ 0)
    × (taken_word (took (pos 1) true) ≡ pos 1)
    × (taken_exact (took (pos 1) true) ≡ true)
    × (taken_exact (took (pos 1) false) ≡ false)
with_word = (refl, refl, refl, refl)

without_word :
    (taken_word (Err Outside) ≡ pos 0)
    × (taken_word (Err NotFinite) ≡ pos 0)
    × (taken_place (Err Outside) ≡ 0)
    × (taken_exact (Err Outside) ≡ false)
    × (taken_exact (Err NotFinite) ≡ false)
without_word = (refl, refl, refl, refl, refl)

-- a double's own value: -1.5 and 96 are whole numbers of steps; half a step is neither 0 nor 1; what is not finite is no number of them
own_values : ValueIs 24 (fin true 3 (negsuc 0)) (negsuc 25165823) × ValueIs 24 (fin false 3 (pos 5)) (pos 1610612736)
own_values = (refl, refl)

half_a_step : (ValueIs 24 (fin false 1 (negsuc 24)) (pos 0) → ⊥) × (ValueIs 24 (fin false 1 (negsuc 24)) (pos 1) → ⊥)
half_a_step = ((λ h. eqb-false 0 16777216 refl (ap nat_abs h)), (λ h. eqb-false 33554432 16777216 refl (ap nat_abs h)))

no_value : (z : ℤ) → (ValueIs 24 (inf false) z → ⊥) × (ValueIs 24 nan z → ⊥)
no_value z = ((λ h. h), (λ h. h))

-- 2^31 steps, of either sign, and what is not finite: refused by 10 and by 13
too_large : taken_number (taken_of 24 (fin false 1 (pos 7))) ≡ 10
unfolding taken_of rounded
too_large = refl

too_low : taken_number (taken_of 24 (fin true 1 (pos 7))) ≡ 10
unfolding taken_of rounded
too_low = refl

minus_infinity : taken_number (taken_of 24 (inf true)) ≡ 13
unfolding taken_of
minus_infinity = refl

no_number_lem : taken_number (taken_of 24 nan) ≡ 13
unfolding taken_of
no_number_lem = refl
