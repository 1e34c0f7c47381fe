-- The laws of product, quotient and their bounds, over the binary places: those of rounding, at a·b / 2^s and at a·2^s / d. The kinds use these.
use Rattle.whole.proofs.Basics.{◌≡◌, ◌∙◌, refl, sym, ap, subst, true, ℕ, suc, zero, ◌*◌, ◌^◌, ◌≤◌, ◌<◌, arith, T, ℤ, pos, negsuc, neg_ℤ, nat_abs, ◌-ℤ◌, ◌*ℤ◌}
use native.Mathlib.Nat.{mul-le-mul, mul-le-mul_left}
use lib.Pow.{pow_pos, pow_mono}
use lib.IntN.{zero-*ℤ, neg_ℤ-neg_ℤ}
use Rattle.whole.proofs.Diff.{v, ◌⊗◌, ⊖◌, same}
use Rattle.whole.proofs.Order.{abs_mul}
use Rattle.word.specs.Rounded.{rounded}
use Rattle.word.specs.Words.{NotZero, unit, below_zero, with_sign, product_of, quotient_of, bound_product, bound_quotient}
use Rattle.word.proofs.RoundedLaws.{rounded_odd, rounded_none, rounded_near, rounded_size, rounded_exact, up_above, up_least, up_mono}
use Rattle.word.proofs.SignLaws.{sign_abs, sign_odd, sign_mul, sign_moved}

pub unit-pos : (s : ℕ) → 0 < unit s
unit-pos s = pow_pos s

pub not_zero_times : (a b : ℤ) → NotZero a → NotZero b → NotZero (a *ℤ b)
not_zero_times a b f g = omega (arith, abs_mul a b, mul-le-mul f g)

-- 32 binary digits, scaled, are no more than 60
pub scaled_most : (x s : ℕ) → x < 2 ^ 32 → s ≤ 28 → x * unit s < 2 ^ 60
scaled_most x s f g =
    let x_most : x ≤ 4294967295 = omega arith in
    let u-most : unit s ≤ 268435456 = omega (arith, pow_mono {i = s} {j = 28} g) in
    omega (arith, mul-le-mul x_most u-most)

-- ---- product
pub product_near : (s : ℕ) (a b : ℤ) → 2 * nat_abs (product_of s a b *ℤ pos (unit s) -ℤ a *ℤ b) ≤ unit s
product_near s a b = rounded_near (a *ℤ b) (unit s) (unit-pos s)

product_size : (s : ℕ) (a b : ℤ) → nat_abs (product_of s a b) ≤ bound_product s (nat_abs a) (nat_abs b)
product_size s a b = rw (← abs_mul a b) (rounded_size (a *ℤ b) (unit s) (unit-pos s))

-- the other sign of one factor gives the other sign, of both the same product
pub product_odd_left : (s : ℕ) (a b : ℤ) → product_of s (neg_ℤ a) b ≡ neg_ℤ (product_of s a b)
product_odd_left s a b = ap (λ (z : ℤ). rounded z (unit s)) (same (⊖ v a ⊗ v b) (⊖ (v a ⊗ v b)) (omega arith)) ∙ rounded_odd (a *ℤ b) (unit s)

pub product_odd_right : (s : ℕ) (a b : ℤ) → product_of s a (neg_ℤ b) ≡ neg_ℤ (product_of s a b)
product_odd_right s a b = ap (λ (z : ℤ). rounded z (unit s)) (same (v a ⊗ ⊖ v b) (⊖ (v a ⊗ v b)) (omega arith)) ∙ rounded_odd (a *ℤ b) (unit s)

pub product_same : (s : ℕ) (a b : ℤ) → product_of s (neg_ℤ a) (neg_ℤ b) ≡ product_of s a b
product_same s a b = product_odd_left s a (neg_ℤ b) ∙ ap neg_ℤ (product_odd_right s a b) ∙ neg_ℤ-neg_ℤ (product_of s a b)

pub product_zero : (s : ℕ) (b : ℤ) → product_of s (pos 0) b ≡ pos 0
product_zero s b = ap (λ (z : ℤ). rounded z (unit s)) (zero-*ℤ b ∙ sym (zero-*ℤ (pos (unit s)))) ∙ rounded_exact (pos 0) (unit s) (unit-pos s)

-- a bound product grows with its factors
pub bound_mono : (s a b a' b' : ℕ) → a ≤ a' → b ≤ b' → bound_product s a b ≤ bound_product s a' b'
bound_mono s a b a' b' f g = up_mono (a * b) (a' * b') (unit s) (unit-pos s) (mul-le-mul f g)

pub product_within : (s : ℕ) (a b : ℤ) (A B : ℕ) → nat_abs a ≤ A → nat_abs b ≤ B → nat_abs (product_of s a b) ≤ bound_product s A B
product_within s a b A B f g = omega (arith, product_size s a b, bound_mono s (nat_abs a) (nat_abs b) A B f g)

-- S bounds the square
pub square_within : (s A : ℕ) (x : ℤ) → nat_abs x ≤ A → nat_abs (product_of s x x) ≤ bound_product s A A
square_within s A x h = product_within s x x A A h h

-- ---- quotient
-- the quotient times d is within half of |d| of a·2^s, whatever the signs
pub quotient_near : (s : ℕ) (a d : ℤ) → NotZero d → 2 * nat_abs (quotient_of s a d *ℤ d -ℤ a *ℤ pos (unit s)) ≤ nat_abs d
quotient_near s a d h = omega (arith, sign_moved d (quotient_of s a d) (a *ℤ pos (unit s)), rounded_near (with_sign (below_zero d) (a *ℤ pos (unit s))) (nat_abs d) h)

quotient_size : (s : ℕ) (a d : ℤ) → NotZero d → nat_abs (quotient_of s a d) ≤ bound_quotient s (nat_abs a) (nat_abs d)
quotient_size s a d h = rw (← e) (rounded_size (with_sign (below_zero d) (a *ℤ pos (unit s))) (nat_abs d) h)
  where
    e : nat_abs (with_sign (below_zero d) (a *ℤ pos (unit s))) ≡ nat_abs a * unit s
    e = sign_abs (below_zero d) (a *ℤ pos (unit s)) ∙ abs_mul a (pos (unit s))

-- the other sign of the dividend, or of the divisor, gives the other sign, of both the same quotient
pub quotient_odd_dividend : (s : ℕ) (a d : ℤ) → quotient_of s (neg_ℤ a) d ≡ neg_ℤ (quotient_of s a d)
quotient_odd_dividend s a d =
    let m = a *ℤ pos (unit s) in
    ap (λ (z : ℤ). rounded z (nat_abs d)) (ap (with_sign (below_zero d)) (sign_mul true a (unit s)) ∙ sign_odd (below_zero d) m) ∙ rounded_odd (with_sign (below_zero d) m) (nat_abs d)

-- so that of 0 is 0, by any divisor
pub quotient_zero : (s : ℕ) (d : ℤ) → quotient_of s (pos 0) d ≡ pos 0
quotient_zero s d = none (quotient_of s (pos 0) d) (quotient_odd_dividend s (pos 0) d)
  where
    none : (z : ℤ) → z ≡ neg_ℤ z → z ≡ pos 0
    none (pos zero) e = refl
    none (pos (suc n)) e = absurd (subst T (sym (ap below_zero e)) tt)
    none (negsuc n) e = absurd (subst T (ap below_zero e) tt)

pub quotient_odd_divisor : (s : ℕ) (a d : ℤ) → quotient_of s a (neg_ℤ d) ≡ neg_ℤ (quotient_of s a d)
quotient_odd_divisor s a (pos zero) = rounded_none (a *ℤ pos (unit s)) ∙ ap neg_ℤ (sym (rounded_none (a *ℤ pos (unit s))))
quotient_odd_divisor s a (pos (suc k)) = rounded_odd (a *ℤ pos (unit s)) (suc k)
quotient_odd_divisor s a (negsuc k) = sym (ap neg_ℤ (rounded_odd (a *ℤ pos (unit s)) (suc k)) ∙ neg_ℤ-neg_ℤ (quotient_of s a (pos (suc k))))

pub quotient_same : (s : ℕ) (a d : ℤ) → quotient_of s (neg_ℤ a) (neg_ℤ d) ≡ quotient_of s a d
quotient_same s a d = quotient_odd_dividend s a (neg_ℤ d) ∙ ap neg_ℤ (quotient_odd_divisor s a d) ∙ neg_ℤ-neg_ℤ (quotient_of s a d)

-- a bound quotient grows with the dividend and falls with the divisor
quotient_mono : (s a a' d d' : ℕ) → a ≤ a' → d' ≤ d → 0 < d' → bound_quotient s a d ≤ bound_quotient s a' d'
quotient_mono s a a' d d' f g h =
    let q = bound_quotient s a' d' in
    let e = up_above (a' * unit s) d' h in
    let k : q * d' ≤ q * d = mul-le-mul_left q g in
    up_least (a * unit s) d q (omega arith) (omega (arith, mul-le-mul_left (unit s) f))

pub quotient_within : (s : ℕ) (a d : ℤ) (A D : ℕ) → 0 < D → nat_abs a ≤ A → D ≤ nat_abs d → nat_abs (quotient_of s a d) ≤ bound_quotient s A D
quotient_within s a d A D h f g = omega (arith, quotient_size s a d (omega arith), quotient_mono s (nat_abs a) A (nat_abs d) D f g h)
