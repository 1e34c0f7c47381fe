-- The laws of the sign, by its two cases: how it is tested for, what keeps it, what it leaves of a number, that a number is its size with its
-- sign put back, and a product's sign.
use Rattle.whole.proofs.Basics.{◌≡◌, ◌∙◌, refl, sym, ap, Bool, true, false, not, ℕ, suc, zero, ◌*◌, ◌<◌, arith, ℤ, pos, negsuc, neg_ℤ, nat_abs, ◌+ℤ◌, ◌-ℤ◌, ◌*ℤ◌, lt_z, SFits}
use mathlib.Core.Bool.{beq}
use lib.IntN.{neg_ℤ-neg_ℤ}
use mir.Syntax.{Width}
use borrow.Author.Tests.{lt-leb}
use Rattle.whole.proofs.Diff.{v, n, ◌⊕◌, ◌⊗◌, ◌⊝◌, ⊖◌, same, size}
use Rattle.whole.proofs.Held.{back, held, arg}
use Rattle.whole.proofs.Order.{abs_neg}
use Rattle.word.specs.Words.{below_zero, with_sign}

-- a test for a sign, and that scaling keeps it
below_is : (z : ℤ) → lt_z z (pos 0) ≡ below_zero z
below_is (pos k) = lt-leb (suc k) 0 (omega arith)
below_is (negsuc k) = refl

below_negated : (k : ℕ) → 0 < k → below_zero (neg_ℤ (pos k)) ≡ true
below_negated zero h = absurd (omega arith)
below_negated (suc k) h = refl

pub below_scaled : (z : ℤ) (k : ℕ) → 0 < k → below_zero z ≡ below_zero (z *ℤ pos k)
below_scaled (pos a) k h = refl
below_scaled (negsuc a) k h = sym (below_negated (suc a * k) (omega arith))

-- as a function tests a signed local
pub below_read : {w : Width} {x : ℤ} → SFits w x → lt_z (back w x) (pos 0) ≡ below_zero x
below_read {w} {x} f = ap (λ (z : ℤ). lt_z z (pos 0)) (held (arg {w = w} f)) ∙ below_is x

pub sign_abs : (t : Bool) (z : ℤ) → nat_abs (with_sign t z) ≡ nat_abs z
sign_abs true z = abs_neg z
sign_abs false z = refl

pub sign_odd : (t : Bool) (z : ℤ) → with_sign t (neg_ℤ z) ≡ neg_ℤ (with_sign t z)
sign_odd true z = refl
sign_odd false z = refl

pub sign_not : (t : Bool) (z : ℤ) → with_sign (not t) z ≡ neg_ℤ (with_sign t z)
sign_not true z = sym (neg_ℤ-neg_ℤ z)
sign_not false z = refl

pub sign_twice : (t : Bool) (z : ℤ) → with_sign t (with_sign t z) ≡ z
sign_twice true z = neg_ℤ-neg_ℤ z
sign_twice false z = refl

pub sign_mul : (t : Bool) (z : ℤ) (k : ℕ) → with_sign t z *ℤ pos k ≡ with_sign t (z *ℤ pos k)
sign_mul true z k = same (⊖ v z ⊗ n k) (⊖ (v z ⊗ n k)) (omega arith)
sign_mul false z k = refl

pub sign_off : (z : ℤ) → with_sign (below_zero z) z ≡ pos (nat_abs z)
sign_off (pos k) = refl
sign_off (negsuc k) = refl

pub sign_back : (z : ℤ) → with_sign (below_zero z) (pos (nat_abs z)) ≡ z
sign_back (pos k) = refl
sign_back (negsuc k) = refl

-- whether two signs differ, which is the sign of a product
abbrev pub differ : ℤ → ℤ → Bool
differ a b = not (beq (below_zero a) (below_zero b))

pub sign_times : (a b : ℤ) → with_sign (differ a b) (pos (nat_abs a * nat_abs b)) ≡ a *ℤ b
sign_times (pos a) (pos b) = refl
sign_times (pos a) (negsuc b) = refl
sign_times (negsuc a) (pos b) = refl
sign_times (negsuc a) (negsuc b) = refl

-- behind a 0 the sign can be taken from the sum
pub sign_behind_zero : (a b : ℤ) → a ≡ pos 0 → a +ℤ neg_ℤ b ≡ neg_ℤ (a +ℤ b)
sign_behind_zero a b e = rw e (same (n 0 ⊕ ⊖ v b) (⊖ (n 0 ⊕ v b)) (omega arith))

-- a divisor's sign, given to the number that it divides
pub sign_moved : (d q m : ℤ) → nat_abs (q *ℤ d -ℤ m) ≡ nat_abs (q *ℤ pos (nat_abs d) -ℤ with_sign (below_zero d) m)
sign_moved (pos k) q m = refl
sign_moved (negsuc k) q m = omega (arith, size (v q ⊗ v (negsuc k) ⊝ v m), size (v q ⊗ n (suc k) ⊝ ⊖ v m))
