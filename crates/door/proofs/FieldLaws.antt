-- The word taken from a double, by its three fields: the sign t, the exponent field F and the fraction d, over the places s, up to 28.
-- F + s says how many of the 53 digits are cut off: none, some, or all. Where all are, nothing is rounded only if all are 0.
use Rattle.whole.proofs.Basics.{◌≡◌, ◌∙◌, sym, ap, ap₂, subst, Bool, true, false, cond, ℕ, suc, zero, ◌+◌, ◌-◌, ◌*◌, ◌^◌, ◌≤◌, ◌<◌, arith, eqb, pos, nat_abs, eq-eqb, ne_eqb}
use native.Mathlib.Nat.{zero-add, mul_assoc, mul-le-mul, zero-mul, mod-eq_of_lt, pow-succ'}
use lib.Pow.{pow-add, pow_pos, pow_mono, shl_lt}
use lib.Ieee.{nan, inf, Format, binary64, prec, low, hid, ones, odd, of_fields}
use lib.Ieee.Exact.{HasValue, odd_sign}
use Rattle.word.specs.Rounded.{rounded}
use Rattle.word.specs.Words.{largest, unit, with_sign}
use Rattle.word.specs.Exact.{divides}
use Rattle.word.proofs.SignLaws.{sign_abs, sign_mul}
use Rattle.door.specs.Taken.{as_word, taken_of, took}
use Rattle.door.proofs.TakenLaws.{from_ratio, taken_nan, taken_inf, ratio_same, taken_value, as_word_no, small, large}
use Rattle.refusal.specs.declared.Fault.TheVariants.{Outside, NotFinite}
use Rattle.std.specs.Prelude.{Err}

-- ---- a field of ones: an infinity, or no number
infinite : (s : ℕ) (t b : Bool) → taken_of s (cond b (inf t) nan) ≡ (Err NotFinite)
infinite s t true = taken_inf s t
infinite s t false = taken_nan s

ones_taken : (f : Format) (s : ℕ) (t : Bool) (F d : ℕ) → F ≡ ones f → 0 < F → taken_of s (of_fields f t F d) ≡ (Err NotFinite)
unfolding of_fields
ones_taken f s t zero d h k = absurd (omega arith)
ones_taken f s t (suc x) d h k =
    ap (λ (b : Bool). taken_of s (cond b (cond (eqb d 0) (inf t) nan) (odd (prec f) t (hid f + d) x (low f)))) (eq-eqb (suc x) (ones f) h)
    ∙ infinite s t (eqb d 0)

pub field_ones : (s : ℕ) (t : Bool) (F d : ℕ) → F ≡ 2047 → taken_of s (of_fields binary64 t F d) ≡ (Err NotFinite)
field_ones s t F d h = ones_taken binary64 s t F d h (omega arith)

-- ---- another field: F - 1 places above the format's smallest value, with a leading digit unless F is 0
abbrev digits : Format → ℕ → ℕ → ℕ
digits f zero d = d
digits f (suc x) d = hid f + d

value : (f : Format) (t : Bool) (F d : ℕ) → (F ≡ ones f → ⊥) → HasValue (of_fields f t F d) t (digits f F d * 2 ^ (F - 1)) (2 ^ low f)
unfolding of_fields
value f t zero d h = odd_sign (prec f) t d 0 (low f)
value f t (suc x) d h =
    subst (λ (b : Bool). HasValue (cond b (cond (eqb d 0) (inf t) nan) (odd (prec f) t (hid f + d) x (low f))) t ((hid f + d) * 2 ^ (suc x - 1)) (2 ^ low f)) (sym (ne_eqb (suc x) (ones f) h))
    (subst (λ (k : ℕ). HasValue (odd (prec f) t (hid f + d) x (low f)) t ((hid f + d) * 2 ^ k) (2 ^ low f)) (less_one x) (odd_sign (prec f) t (hid f + d) x (low f)))
  where
    less_one : (x : ℕ) → x ≡ suc x - 1
    less_one x = omega arith

finite : (s : ℕ) (t : Bool) (F d : ℕ) → F < 2047 → taken_of s (of_fields binary64 t F d) ≡ from_ratio (with_sign t (pos (digits binary64 F d * 2 ^ (F - 1) * unit s))) (2 ^ low binary64)
finite s t F d h = taken_value s (of_fields binary64 t F d) t (digits binary64 F d * 2 ^ (F - 1)) (2 ^ low binary64) (pow_pos (low binary64)) (value binary64 t F d (λ e. omega arith))

-- ---- q · 2^x · 2^s / 2^l, rounded
joined : (q x s : ℕ) → q * 2 ^ x * 2 ^ s ≡ q * 2 ^ (x + s)
joined q x s = mul_assoc q (2 ^ x) (2 ^ s) ∙ ap (λ (z : ℕ). q * z) (sym (pow-add 2 x s))

-- the digits below 2^(l - (x + s)) are cut off
cut_off : (t : Bool) (q x s l : ℕ) → x + s ≤ l → from_ratio (with_sign t (pos (q * 2 ^ x * 2 ^ s))) (2 ^ l) ≡ from_ratio (with_sign t (pos q)) (2 ^ (l - (x + s)))
cut_off t q x s l h =
    let c = l - (x + s) in
    ratio_same (with_sign t (pos (q * 2 ^ x * 2 ^ s))) (2 ^ l) (with_sign t (pos q)) (2 ^ c) (pow_pos l) (pow_pos c)
    (sign_mul t (pos (q * 2 ^ x * 2 ^ s)) (2 ^ c)
    ∙ ap (λ (k : ℕ). with_sign t (pos k)) (ap (λ (z : ℕ). z * 2 ^ c) (joined q x s) ∙ joined q (x + s) c ∙ ap (λ (z : ℕ). q * 2 ^ z) (omega arith))
    ∙ sym (sign_mul t (pos q) (2 ^ l)))

-- every digit is cut off, and what is cut off is less than a half; so nothing is rounded only where every digit is 0
zero_shifted : (q k : ℕ) → eqb (q * 2 ^ k) 0 ≡ eqb q 0
zero_shifted zero k = ap (λ (z : ℕ). eqb z 0) (zero-mul (2 ^ k))
zero_shifted (suc q) k = ne_eqb (suc q * 2 ^ k) 0 (λ e. omega (arith, pow_pos k)) ∙ sym (ne_eqb (suc q) 0 (λ e. omega arith))

none_left : (t : Bool) (q p x s l : ℕ) → q < 2 ^ p → suc (p + (x + s)) ≤ l → from_ratio (with_sign t (pos (q * 2 ^ x * 2 ^ s))) (2 ^ l) ≡ took (pos 0) (eqb q 0)
none_left t q p x s l h k =
    let z = with_sign t (pos (q * 2 ^ x * 2 ^ s)) in
    let size_is : nat_abs z ≡ q * 2 ^ (x + s) = sign_abs t (pos (q * 2 ^ x * 2 ^ s)) ∙ joined q x s in
    let less : 2 * nat_abs z < 2 ^ l = omega (arith, size_is, shl_lt p (x + s) h, pow-succ' 2 (p + (x + s)), pow_mono k) in
    ap₂ as_word (small z (2 ^ l) less) (ap (λ (r : ℕ). eqb r 0) (mod-eq_of_lt (omega arith) ∙ size_is) ∙ zero_shifted q (x + s))

-- no digit is cut off
all_left : (t : Bool) (q x s l : ℕ) → largest + 1 ≤ q → l ≤ x + s → largest < nat_abs (rounded (with_sign t (pos (q * 2 ^ x * 2 ^ s))) (2 ^ l))
all_left t q x s l h k =
    large (with_sign t (pos (q * 2 ^ x * 2 ^ s))) (2 ^ l) (pow_pos l)
    (omega (arith, sign_abs t (pos (q * 2 ^ x * 2 ^ s)), joined q x s, mul-le-mul h (pow_mono k)))

-- ---- the word, by F + s
pub field_high : (s : ℕ) (t : Bool) (F d : ℕ) → s ≤ 28 → F < 2047 → 1075 ≤ F + s → taken_of s (of_fields binary64 t F d) ≡ (Err Outside)
field_high s t zero d S h k = absurd (omega arith)
field_high s t (suc x) d S h k =
    let z = with_sign t (pos ((hid binary64 + d) * 2 ^ (suc x - 1) * unit s)) in
    finite s t (suc x) d h
    ∙ as_word_no (rounded z (2 ^ low binary64)) (divides (2 ^ low binary64) z) (all_left t (hid binary64 + d) (suc x - 1) s (low binary64) (omega arith) (omega arith))

pub field_low : (s : ℕ) (t : Bool) (F d : ℕ) → s ≤ 28 → d < hid binary64 → F + s < 1022 → taken_of s (of_fields binary64 t F d) ≡ took (pos 0) (eqb (F + d) 0)
field_low s t F d S D k =
    finite s t F d (omega arith)
    ∙ none_left t (digits binary64 F d) 53 (F - 1) s (low binary64) (few F d D) (omega arith)
    ∙ ap (took (pos 0)) (nothing F d)
  where
    few : (F d : ℕ) → d < hid binary64 → digits binary64 F d < 2 ^ 53
    few zero d h = omega arith
    few (suc x) d h = omega arith

    nothing : (F d : ℕ) → eqb (digits binary64 F d) 0 ≡ eqb (F + d) 0
    nothing zero d = ap (λ (k : ℕ). eqb k 0) (sym (zero-add d))
    nothing (suc x) d = ne_eqb (hid binary64 + d) 0 (λ e. omega arith) ∙ sym (ne_eqb (suc x + d) 0 (λ e. omega arith))

pub field_mid : (s : ℕ) (t : Bool) (F d : ℕ) → s ≤ 28 → 1022 ≤ F + s → F + s < 1075 → taken_of s (of_fields binary64 t F d) ≡ from_ratio (with_sign t (pos (hid binary64 + d))) (2 ^ (1075 - (F + s)))
field_mid s t zero d S h k = absurd (omega arith)
field_mid s t (suc x) d S h k =
    finite s t (suc x) d (omega arith)
    ∙ cut_off t (hid binary64 + d) (suc x - 1) s (low binary64) (omega arith)
    ∙ ap (λ (c : ℕ). from_ratio (with_sign t (pos (hid binary64 + d))) (2 ^ c)) (omega arith)
