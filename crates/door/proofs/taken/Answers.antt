-- `door::taken` meets its contract: x is read back from the fields that the code takes, and each return is a law of `FieldLaws` at them.
use Rattle.whole.proofs.Basics.{◌≡◌, ◌∙◌, sym, ap, ap₂, subst, false, not, ℕ, ◌+◌, ◌-◌, ◌^◌, arith, T, ℤ, pos, w64, SFits, rules}
use mathlib.Core.Bool.{true≢false}
use lib.Bits.{bit_or}
use lib.Ieee.{Float, nan, inf, fin, binary64, is_nan, ne, hid, to_bits, of_fields}
use lib.Ieee.Compare.{differs_from_itself}
use Rattle.whole.proofs.Diff.{n}
use Rattle.whole.proofs.Fit.{fit}
use Rattle.whole.proofs.Held.{back, Held, held, arg, given, known}
use Rattle.word.specs.Words.{with_sign}
use Rattle.door.specs.Taken.{as_word, taken_of, Taken, took}
use Rattle.door.proofs.TakenLaws.{from_ratio, taken_nan}
use Rattle.door.proofs.FieldLaws.{field_ones, field_high, field_low, field_mid}
use Rattle.door.proofs.BitLaws.{sign_bit, exponent, fraction, exponent_most, fraction_most, leading_digit, zero_bits, fields_of_lem}
use Rattle.door.proofs.taken.Goals as goal
use Rattle.door.proofs.taken.Goals.{Start}

-- `x != x` is false, so x is no NaN
no_nan : (x : Float) → ne x x ≡ false → T (not (is_nan x))
unfolding ne is_nan
no_nan nan h = absurd (true≢false h)
no_nan (inf t) h = tt
no_nan (fin t m e) h = tt

module _ (c : Start) where
  abbrev s : ℕ
  s = c.args.s

  abbrev b : ℕ
  b = to_bits binary64 c.args.x

  -- a law at x's fields is one at x
  by_fields : (r : Taken) → taken_of s (of_fields binary64 (sign_bit b) (exponent b) (fraction b)) ≡ r → r ≡ taken_of s c.args.x
  by_fields r e = sym e ∙ sym (ap (taken_of s) (fields_of_lem c.args.x (subst T (sym c.well_formed.0.1) tt)))

  -- the 53 digits, as the code has them
  held-digits : Held w64 (pos (bit_or (fraction b) 4503599627370496)) (pos (hid binary64 + fraction b))
  held-digits = known (ap pos (leading_digit b)) (fit (n (hid binary64 + fraction b)) (omega (arith, fraction_most b)))

pub returns-then-x : goal.returns-then-x
returns-then-x c = sym (ap (taken_of c.args.s) (differs_from_itself c.args.x (subst T (sym c.if-x.true) tt)) ∙ taken_nan c.args.s)

pub float_to_bits-b : goal.float_to_bits-b
float_to_bits-b c = no_nan c.args.x c.if-x.false

pub returns-then-exponent-eq2047 : goal.returns-then-exponent-eq2047
returns-then-exponent-eq2047 c =
    let d = (goal.at.returns-then-exponent-eq2047 c).Start in
    by_fields d _ (field_ones (s d) (sign_bit (b d)) (exponent (b d)) (fraction (b d)) (omega (arith, c.if-exponent-eq2047.true)))

pub returns-then-e-ge1075 : goal.returns-then-e-ge1075
returns-then-e-ge1075 c =
    let d = (goal.at.returns-then-e-ge1075 c).Start in
    by_fields d _ (field_high (s d) (sign_bit (b d)) (exponent (b d)) (fraction (b d)) d.requires.most (omega (arith, exponent_most (b d), c.if-exponent-eq2047.false)) (omega (arith, c.if-e-ge1075.true)))

pub returns-then-e-lt1022 : goal.returns-then-e-lt1022
returns-then-e-lt1022 c =
    let d = (goal.at.returns-then-e-lt1022 c).Start in
    by_fields d _
    (field_low (s d) (sign_bit (b d)) (exponent (b d)) (fraction (b d)) d.requires.most (fraction_most (b d)) (omega (arith, c.if-e-lt1022.true))
    ∙ ap (took (pos 0)) (zero_bits (b d)))

pub returns : goal.returns
returns c =
    let d = (goal.at.returns c).Start in
    let cut = 1075 - (exponent (b d) + s d) in
    -- what is handed to `rounded_shift`
    let m : back w64 c.with_sign-n.result ≡ with_sign (sign_bit (b d)) (pos (hid binary64 + fraction (b d))) =
    held (given {w = w64} c.with_sign-n.type_inv) ∙ c.with_sign-n.ensures ∙ ap (with_sign (sign_bit (b d))) (held (held-digits d)) in
    -- what is handed to `as_word`
    let f : SFits w64 c.rounded_shift-r.result.value = search rules in
    by_fields d _
    (field_mid (s d) (sign_bit (b d)) (exponent (b d)) (fraction (b d)) d.requires.most (omega (arith, c.if-e-lt1022.false)) (omega (arith, c.if-e-ge1075.false))
    ∙ ap (λ (z : ℤ). from_ratio z (2 ^ cut)) (sym m)
    ∙ ap₂ as_word (sym (held (arg f) ∙ c.rounded_shift-r.ensures.value)) (sym (c.is_whole.ensures ∙ c.rounded_shift-r.ensures.mark))
    ∙ sym c.as_word.ensures)
