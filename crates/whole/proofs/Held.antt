-- What a signed local holds. A signed local holds bits, so each operation of the code reads its operands back, `to_z w (of_z w x)`, and a goal nests these as deep as the code.
-- `Held w x y` says that the code's number x, which still has these readings in it, is y, and that y fits: there is one rule for each operation, which takes the operands' facts and that the result fits.
-- `fits_code h` answers the need of the operation itself, and `held h ∙ ..` a `returns`.
use Rattle.whole.proofs.Basics.{◌≡◌, ◌∙◌, refl, sym, ap, ap₂, subst, Bool, true, false, not, ℕ, suc, zero, ◌+◌, ◌-◌, ◌*◌, ◌%◌, ◌^◌, ◌≤◌, ◌<◌, arith, T, ltb, leb, ℤ, pos, negsuc, nat_abs, neg_ℤ, ◌+ℤ◌, ◌-ℤ◌, ◌*ℤ◌, ◌≤ℤ◌, ◌<ℤ◌, lt_z, SFits, to_z, of_z, to_z-of_z}
use native.Mathlib.Nat.{add-mul-mod_self_left, mod-eq_of_lt}
use lib.IntN.{+ℤ_idl}
use lib.Signed.{non_neg, yes_non_neg, lt_z_no, mag, mag_rem, quot_z, rem_z}
use mir.Syntax.{Width}
use mir.Val.{Fits, bits, hbits}
use mir.Facts.{sfits_lit, sfits_widen}
use mir.ValLaws.{pow-bits}
use Rattle.whole.proofs.Fit.{fit_abs}
use Rattle.whole.proofs.Order.{quot_abs}

-- x, stored and read back
abbrev pub back : Width → ℤ → ℤ
back w x = to_z w (of_z w x)

pub record Held (w : Width) (x y : ℤ) : Type 0 where
  pub eq : x ≡ y
  pub fits : SFits w y

-- that the code's own number fits, which the operation asks
pub fits_code : {w : Width} {x y : ℤ} → Held w x y → SFits w x
fits_code {w} h = subst (SFits w) (sym h.eq) h.fits

-- what is read
pub held : {w : Width} {x y : ℤ} → Held w x y → back w x ≡ y
held {w} h = ap (back w) h.eq ∙ to_z-of_z h.fits

-- a parameter, or a value that a call gave
pub arg : {w : Width} {x : ℤ} → SFits w x → Held w x x
arg f = record { eq = refl; fits = f }

-- a literal: `lit (pos 7) tt`
pub lit : {w : Width} (x : ℤ) → T (ltb (mag x) (2 ^ hbits w)) → Held w x x
lit x t = arg (sfits_lit t)

-- a call's result, by its `.ok`: `given c.f.ok`
pub given : {w : Width} {x : ℤ} → mag x < 2 ^ hbits w → Held w x x
given p = arg (record { sfits = p })

-- of which an equation is known
pub known : {w : Width} {x y : ℤ} → x ≡ y → SFits w y → Held w x y
known e f = record { eq = e; fits = f }

-- a copy, or a cast to another signed width
pub cast : {w w' : Width} {x y : ℤ} → Held w x y → SFits w' y → Held w' (back w x) y
cast h f = record { eq = held h; fits = f }

-- to a wider one: `wider tt h`
pub wider : {w w' : Width} {x y : ℤ} → T (leb (hbits w) (hbits w')) → Held w x y → Held w' (back w x) y
wider t h = cast h (sfits_widen t h.fits)

pub plus : {w : Width} {x y x' y' : ℤ} → Held w x y → Held w x' y' → SFits w (y +ℤ y') → Held w (back w x +ℤ back w x') (y +ℤ y')
plus h k f = record { eq = ap₂ ◌+ℤ◌ (held h) (held k); fits = f }

pub quot : {w : Width} {x y x' y' : ℤ} → Held w x y → Held w x' y' → SFits w (quot_z y y') → Held w (quot_z (back w x) (back w x')) (quot_z y y')
quot h k f = record { eq = ap₂ quot_z (held h) (held k); fits = f }

pub remainder : {w : Width} {x y x' y' : ℤ} → Held w x y → Held w x' y' → Held w (rem_z (back w x) (back w x')) (rem_z y y')
remainder {w} {x} {y} {x'} {y'} h k = record { eq = ap₂ rem_z (held h) (held k); fits = record { sfits = omega (arith, mag_rem y y', h.fits.sfits) } }

-- ---- what a division asks besides: that the divisor's bits are not 0, and that the quotient fits
of_z-pos : (w : Width) (z : ℤ) → SFits w z → 0 < nat_abs z → 0 < of_z w z
of_z-pos w (pos n) f h = h
of_z-pos w (negsuc n) f h = omega (arith, f.sfits, pow-bits w)

pub divisor : {w : Width} {x y : ℤ} → Held w x y → 0 < nat_abs y → 0 < of_z w x
divisor {w} {x} {y} h p = subst (λ (z : ℤ). 0 < of_z w z) (sym h.eq) (of_z-pos w y h.fits p)

pub quot_fits : {w : Width} (y d : ℤ) → nat_abs y < 2 ^ hbits w → SFits w (quot_z y d)
quot_fits {w} y d h = fit_abs (omega (arith, quot_abs y d))

is_true : (b : Bool) → b ≡ true → T b
is_true b e = subst T (sym e) tt

is_false : (b : Bool) → b ≡ false → T (not b)
is_false b e = subst (λ (x : Bool). T (not x)) (sym e) tt

-- ---- tests: a flag of the code's numbers is the order of the numbers held
pub tested_lt : {w : Width} {x y x' y' : ℤ} → Held w x y → Held w x' y' → lt_z (back w x) (back w x') ≡ true → y <ℤ y'
tested_lt {w} {x} {y} {x'} {y'} h k e = record { lt = is_true (lt_z y y') (sym (ap₂ lt_z (held h) (held k)) ∙ e) }

pub tested_ge : {w : Width} {x y x' y' : ℤ} → Held w x y → Held w x' y' → lt_z (back w x) (back w x') ≡ false → y' ≤ℤ y
tested_ge {w} {x} {y} {x'} {y'} h k e = lt_z_no (is_false (lt_z y y') (sym (ap₂ lt_z (held h) (held k)) ∙ e))

-- ---- a cast to an unsigned width
pub held_nat : {w : Width} {x y : ℤ} → Held w x y → nat_abs (back w x) ≡ nat_abs y
held_nat h = ap nat_abs (held h)

pub cast_nat : {w w' : Width} {x y : ℤ} → Held w x y → pos 0 ≤ℤ y → nat_abs y < 2 ^ bits w' → T (non_neg (back w x)) × Fits w' (nat_abs (back w x))
cast_nat {w} {w'} {x} {y} h p f = (subst (λ (z : ℤ). T (non_neg z)) (sym (held h)) (yes_non_neg p), record { fits = subst (λ (k : ℕ). k < 2 ^ bits w') (sym (held_nat h)) f })

-- `-x` is `0 - x`
pub negated : {w : Width} {x y : ℤ} → Held w x y → SFits w (neg_ℤ y) → Held w (pos 0 -ℤ back w x) (neg_ℤ y)
negated h f = record { eq = ap (λ (z : ℤ). pos 0 -ℤ z) (held h) ∙ +ℤ_idl _; fits = f }

-- ---- a shift to the left gives bits: where no digit is lost, those of the product, below zero too
complement : (B t u j p : ℕ) → t + j ≡ B → u + j * suc p ≡ B → 0 < j → t * suc p % B ≡ u
complement B t u j p f g h =
    let e : t * suc p ≡ u + B * p = omega (arith, ap (λ (z : ℕ). z * suc p) f) in
    ap (λ (z : ℕ). z % B) e ∙ add-mul-mod_self_left u B p ∙ mod-eq_of_lt (omega arith)

negative_bits : (w : Width) (j : ℕ) → 0 < j → SFits w (neg_ℤ (pos j)) → (j ≤ 2 ^ bits w) × (2 ^ bits w - j ≡ of_z w (neg_ℤ (pos j)))
negative_bits w zero h f = absurd (omega arith)
negative_bits w (suc k) h f = (omega (arith, f.sfits, pow-bits w), refl)

shifted : (w : Width) (y : ℤ) (p : ℕ) → SFits w (y *ℤ pos (suc p)) → of_z w y * suc p % 2 ^ bits w ≡ of_z w (y *ℤ pos (suc p))
shifted w (pos k) p f = mod-eq_of_lt (omega (arith, f.sfits, pow-bits w))
shifted w (negsuc k) p f =
    let j = suc k * suc p in
    let b = negative_bits w j (omega arith) f in
    complement (2 ^ bits w) (2 ^ bits w - suc k) (2 ^ bits w - j) (suc k) p (omega (arith, b.0)) (omega (arith, b.0)) (omega arith) ∙ b.1

pub shl : {w : Width} {x y : ℤ} (p : ℕ) → 0 < p → Held w x y → SFits w (y *ℤ pos p) → to_z w (of_z w x * p % 2 ^ bits w) ≡ y *ℤ pos p
shl zero h k f = absurd (omega arith)
shl {w} {x} {y} (suc p) h k f = ap (λ (z : ℤ). to_z w (of_z w z * suc p % 2 ^ bits w)) k.eq ∙ ap (to_z w) (shifted w y p f) ∙ to_z-of_z f
