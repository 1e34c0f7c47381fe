-- The laws of `taken_of`: it sees only a double's sign and value, and which sizes give 0 or no word. Both come from laws of rounding and of remainders.
use Rattle.whole.proofs.Basics.{◌≡◌, ◌∙◌, refl, sym, ap, ap₂, Bool, cond, ℕ, ◌+◌, ◌*◌, ◌≤◌, ◌<◌, arith, ℤ, pos, nat_abs, ◌*ℤ◌}
use native.Mathlib.Nat.{mul_right_comm, lt_of_mul-lt-mul_right}
use lib.Ieee.{Float, nan, inf, fin, up, down}
use lib.Ieee.Fits.{down_pos}
use lib.Ieee.Exact.{HasValue}
use borrow.Author.Tests.{le-leb, lt-leb}
use Rattle.whole.proofs.Diff.{v, n, ◌⊗◌, ◌⊝◌, size}
use Rattle.whole.proofs.Order.{abs_mul, abs_zero}
use Rattle.word.specs.Rounded.{rounded}
use Rattle.word.specs.Words.{largest, unit, with_sign}
use Rattle.word.specs.Exact.{divides}
use Rattle.word.proofs.RoundedLaws.{rounded_near, rounded_same}
use Rattle.word.proofs.ExactLaws.{divides_same}
use Rattle.word.proofs.SignLaws.{sign_mul}
use Rattle.door.specs.Taken.{numerator, as_word, taken_of, Taken, took}
use Rattle.refusal.specs.declared.Fault.TheVariants.{Outside, NotFinite}
use Rattle.std.specs.Prelude.{Err}

-- ---- the definition's three cases; a finite double's is that of a fraction m / d
abbrev pub from_ratio : ℤ → ℕ → Taken
from_ratio m d = as_word (rounded m d) (divides d m)

pub taken_nan : (s : ℕ) → taken_of s nan ≡ (Err NotFinite)
unfolding taken_of
taken_nan s = refl

pub taken_inf : (s : ℕ) (t : Bool) → taken_of s (inf t) ≡ (Err NotFinite)
unfolding taken_of
taken_inf s t = refl

pub taken_fin : (s : ℕ) (t : Bool) (m : ℕ) (e : ℤ) → taken_of s (fin t m e) ≡ from_ratio (numerator s t m e) (down e)
unfolding taken_of
taken_fin s t m e = refl

-- ---- it sees only the fraction's value
pub ratio_same : (m : ℤ) (d : ℕ) (k : ℤ) (c : ℕ) → 0 < d → 0 < c → m *ℤ pos c ≡ k *ℤ pos d → from_ratio m d ≡ from_ratio k c
ratio_same m d k c D C e = ap₂ as_word (rounded_same m d k c D C e) (divides_same m d k c D C e)

-- ---- a double whose sign is t and whose size is a / c
pub taken_value : (s : ℕ) (x : Float) (t : Bool) (a c : ℕ) → 0 < c → HasValue x t a c → taken_of s x ≡ from_ratio (with_sign t (pos (a * unit s))) c
taken_value s nan t a c C h = elim h [ ]
taken_value s (inf _) t a c C h = elim h [ ]
taken_value s (fin u m e) t a c C h =
    taken_fin s u m e
    ∙ ap (λ (b : Bool). from_ratio (numerator s b m e) (down e)) h.0
    ∙ ratio_same (numerator s t m e) (down e) (with_sign t (pos (a * unit s))) c (down_pos e) C
    (sign_mul t (pos (m * up e * unit s)) c
    ∙ ap (λ (k : ℕ). with_sign t (pos k)) (mul_right_comm (m * up e) (unit s) c ∙ ap (λ (z : ℕ). z * unit s) h.1 ∙ mul_right_comm a (down e) (unit s))
    ∙ sym (sign_mul t (pos (a * unit s)) (down e)))

-- ---- words and other numbers
pub as_word_yes : (z : ℤ) (exact : Bool) → nat_abs z ≤ largest → as_word z exact ≡ took z exact
as_word_yes z exact h = ap (λ b. cond b (took z exact) (Err Outside)) (le-leb (nat_abs z) largest h)

pub as_word_no : (z : ℤ) (exact : Bool) → largest < nat_abs z → as_word z exact ≡ (Err Outside)
as_word_no z exact h = ap (λ b. cond b (took z exact) (Err Outside)) (lt-leb (nat_abs z) largest h)

-- |m| is at most |rounded m d| · d and half of d more, and the other way round
apart : (m : ℤ) (d : ℕ) → 0 < d → (2 * (nat_abs (rounded m d) * d) ≤ 2 * nat_abs m + d) × (2 * nat_abs m ≤ 2 * (nat_abs (rounded m d) * d) + d)
apart m d D =
    let q = rounded m d in
    omega (arith, rounded_near m d D, size (v q ⊗ n d ⊝ v m), size (v m), abs_mul q (pos d), size (v q ⊗ n d))

-- less than a half is 0
pub small : (m : ℤ) (d : ℕ) → 2 * nat_abs m < d → rounded m d ≡ pos 0
small m d h =
    let q = rounded m d in
    let k : nat_abs q < 1 = lt_of_mul-lt-mul_right d (omega (arith, apart m d (omega arith))) in
    abs_zero q (omega arith)

-- a step above M or more is no word, rounded
pub large : (m : ℤ) (d : ℕ) → 0 < d → (largest + 1) * d ≤ nat_abs m → largest < nat_abs (rounded m d)
large m d D h = lt_of_mul-lt-mul_right d {m = largest} {n = nat_abs (rounded m d)} (omega (arith, apart m d D))
