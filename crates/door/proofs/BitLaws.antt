-- A double is read back from its bit pattern by the three fields, as the code takes them with shifts and masks: a shift divides, and a mask leaves the remainder.
use Rattle.whole.proofs.Basics.{◌≡◌, ◌∙◌, refl, sym, ap, ap₂, Bool, true, false, ℕ, ◌+◌, ◌*◌, ◌/◌, ◌%◌, ◌^◌, ◌≤◌, ◌<◌, arith, T, eqb, leb, eqb-true, eqb-false, eq-eqb, ne_eqb}
use lib.Arith.{digits_mod, mod-mul}
use lib.Dec.{lit<}
use lib.Bits.{bit_and, bit_or, and_mask, mask_lt, or_shifted_r}
use lib.Pow.{field}
use lib.Ieee.{Float, binary64, hid, of_fields, of_bits, to_bits, fits}
use lib.Ieee.Bits.{of_bits-to_bits, to_bits-lt}
use borrow.Author.Tests.{leb-true, leb-false}

-- `b >> 63 == 1`, `(b >> 52) & 0x7ff` and `b & 0xf_ffff_ffff_ffff`, for a double's bit pattern b
abbrev pub sign_bit : ℕ → Bool
sign_bit b = eqb (b / 2 ^ 63) 1

abbrev pub exponent : ℕ → ℕ
exponent b = bit_and (b / 2 ^ 52) 2047

abbrev pub fraction : ℕ → ℕ
fraction b = bit_and b 4503599627370495

pub exponent_most : (b : ℕ) → exponent b ≤ 2047
exponent_most b = omega (arith, mask_lt (b / 2 ^ 52) 11)

pub fraction_most : (b : ℕ) → fraction b < hid binary64
fraction_most b = mask_lt b 52

-- the leading digit, put in
pub leading_digit : (b : ℕ) → bit_or (fraction b) 4503599627370496 ≡ hid binary64 + fraction b
leading_digit b = or_shifted_r 1 52 (fraction b) (fraction_most b)

sign_is : (b : ℕ) → b < 2 ^ 64 → leb (2 ^ 63) b ≡ sign_bit b
sign_is b h = by (leb (2 ^ 63) b) refl
  where
    by : (t : Bool) → leb (2 ^ 63) b ≡ t → t ≡ sign_bit b
    by true e = sym (eq-eqb (b / 2 ^ 63) 1 (omega (arith, leb-true (2 ^ 63) b e)))
    by false e = sym (ne_eqb (b / 2 ^ 63) 1 (λ k. omega (arith, leb-false (2 ^ 63) b e)))

exponent_is : (b : ℕ) → b % 2 ^ 63 / 2 ^ 52 ≡ exponent b
exponent_is b = field b 11 52 ∙ sym (and_mask (b / 2 ^ 52) 11)

read_back : (x : Float) → T (fits binary64 x) → x ≡ of_fields binary64 (leb (2 ^ 63) (to_bits binary64 x)) (to_bits binary64 x % 2 ^ 63 / 2 ^ 52) (to_bits binary64 x % 2 ^ 52)
unfolding of_bits
read_back x h = sym (of_bits-to_bits binary64 x h)

-- `b << 1`, which drops the sign, is 0 where the other two fields are
without_sign : (b : ℕ) → b * 2 ^ 1 % 2 ^ 64 ≡ (exponent b * 2 ^ 52 + fraction b) * 2
without_sign b =
    let r = b % 2 ^ 63 in
    let e : b * 2 ^ 1 ≡ b / 2 ^ 63 * 2 ^ 64 + r * 2 = omega arith in
    ap (λ (k : ℕ). k % 2 ^ 64) e
    ∙ digits_mod (b / 2 ^ 63) {m = 2 ^ 64} {r = r * 2} (omega arith)
    ∙ ap (λ (k : ℕ). k * 2) (mod-mul b {m = 2 ^ 11} {c = 2 ^ 52} (lit< tt) (lit< tt) ∙ ap₂ (λ (k j : ℕ). k * 2 ^ 52 + j) (sym (and_mask (b / 2 ^ 52) 11)) (sym (and_mask b 52)))

pub zero_bits : (b : ℕ) → eqb (exponent b + fraction b) 0 ≡ eqb (b * 2 ^ 1 % 2 ^ 64) 0
zero_bits b = by (eqb (b * 2 ^ 1 % 2 ^ 64) 0) refl
  where
    by : (t : Bool) → eqb (b * 2 ^ 1 % 2 ^ 64) 0 ≡ t → eqb (exponent b + fraction b) 0 ≡ t
    by true e = eq-eqb (exponent b + fraction b) 0 (omega (arith, without_sign b, eqb-true (b * 2 ^ 1 % 2 ^ 64) 0 e))
    by false e = ne_eqb (exponent b + fraction b) 0 (λ k. eqb-false (b * 2 ^ 1 % 2 ^ 64) 0 e (without_sign b ∙ omega arith))

pub fields_of_lem : (x : Float) → T (fits binary64 x) → let b = to_bits binary64 x in x ≡ of_fields binary64 (sign_bit b) (exponent b) (fraction b)
fields_of_lem x h =
    let b = to_bits binary64 x in
    read_back x h
    ∙ ap (λ (t : Bool). of_fields binary64 t (b % 2 ^ 63 / 2 ^ 52) (b % 2 ^ 52)) (sign_is b (to_bits-lt binary64 x h))
    ∙ ap₂ (of_fields binary64 (sign_bit b)) (exponent_is b) (sym (and_mask b 52))
