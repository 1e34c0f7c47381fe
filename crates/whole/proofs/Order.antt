-- The order of ℤ and sizes.
use Rattle.whole.proofs.Basics.{◌≡◌, refl, ℕ, suc, ◌+◌, ◌*◌, ◌/◌, ◌≤◌, arith, ℤ, pos, negsuc, nat_abs, neg_ℤ, ◌+ℤ◌, ◌*ℤ◌, ◌≤ℤ◌}
use native.Mathlib.Nat.{div-le_self}
use lib.Signed.{quot_z}
use Rattle.whole.proofs.Diff.{v, n, ◌⊕◌, ⊖◌, same, below, below_out, abs_is, size, near, parts_le_out}

pub ≤ℤ_trans : {a b c : ℤ} → a ≤ℤ b → b ≤ℤ c → a ≤ℤ c
≤ℤ_trans {a} {b} {c} h k = below (v a) (v c) (omega (arith, parts_le_out a b h, parts_le_out b c k))

pub pos_le : {a b : ℕ} → a ≤ b → pos a ≤ℤ pos b
pos_le {a} {b} h = below (n a) (n b) (omega arith)

-- ---- sizes
pub abs_add : (a b : ℤ) → nat_abs (a +ℤ b) ≤ nat_abs a + nat_abs b
abs_add a b = omega (arith, size (v a ⊕ v b), abs_is a, abs_is b)

pub abs_neg : (a : ℤ) → nat_abs (neg_ℤ a) ≡ nat_abs a
abs_neg a = omega (arith, size (⊖ v a), size (v a))

pub abs_mul : (a b : ℤ) → nat_abs (a *ℤ b) ≡ nat_abs a * nat_abs b
abs_mul (pos a) (pos b) = refl
abs_mul (pos a) (negsuc b) = abs_neg (pos (a * suc b))
abs_mul (negsuc a) (pos b) = abs_neg (pos (suc a * b))
abs_mul (negsuc a) (negsuc b) = refl

-- a quotient, towards zero, is no larger than the dividend
pub quot_abs : (z d : ℤ) → nat_abs (quot_z z d) ≤ nat_abs z
quot_abs (pos a) (pos b) = div-le_self a b
quot_abs (pos a) (negsuc b) = omega (arith, abs_neg (pos (a / suc b)), div-le_self a (suc b))
quot_abs (negsuc a) (pos b) = omega (arith, abs_neg (pos (suc a / b)), div-le_self (suc a) b)
quot_abs (negsuc a) (negsuc b) = div-le_self (suc a) (suc b)

-- what a sum keeps of a's size
pub abs_least : (a b : ℤ) → nat_abs a ≤ nat_abs (a +ℤ b) + nat_abs b
abs_least a b = omega (arith, size (v a ⊕ v b), size (v a), abs_is b)

pub abs_zero : (a : ℤ) → nat_abs a ≡ 0 → a ≡ pos 0
abs_zero a h = same (v a) (n 0) (omega (arith, abs_is a))

-- |a| ≤ k is −k ≤ a ≤ k
pub abs_le : (a : ℤ) (k : ℕ) → neg_ℤ (pos k) ≤ℤ a → a ≤ℤ pos k → nat_abs a ≤ k
abs_le a k h g = near (v a) k (omega (arith, below_out (v a) (n k) g, below_out (⊖ n k) (v a) h))
