-- What the mark says: a product or a quotient is marked exact exactly where the division leaves nothing, so that the rounded number times the divisor
-- is what was divided. No law here depends on where a tie goes. A mark is told by sizes alone, so that signs change none.
use Rattle.whole.proofs.Basics.{◌≡◌, ◌∙◌, refl, sym, ap, ap₂, Bool, true, false, cond, ℕ, suc, ◌*◌, ◌/◌, ◌%◌, ◌<◌, arith, eqb, ℤ, pos, negsuc, neg_ℤ, nat_abs, ◌*ℤ◌, eqb-true, eqb-false, eq-eqb, ne_eqb}
use mathlib.Core.Bool.{◌&&◌, and-eq-true_iff}
use native.Mathlib.Nat.{div-add-mod, mul-mod_left, eq_of_mul-eq-mul_right}
use lib.IntN.{zero-*ℤ}
use Rattle.whole.proofs.Diff.{v, n, ◌⊗◌, ⊖◌, same, same_out}
use Rattle.whole.proofs.Order.{abs_mul, abs_neg}
use Rattle.word.specs.Rounded.{rounded}
use Rattle.word.specs.Words.{NotZero, unit, below_zero, with_sign, product_of, quotient_of}
use Rattle.word.specs.Exact.{divides, exact_product, exact_quotient, square_exact}
use Rattle.word.proofs.RoundedLaws.{rounded_exact}
use Rattle.word.proofs.SignLaws.{sign_abs}
use Rattle.word.proofs.WordLaws.{unit-pos}

-- ---- a number that d divides is some k·d
abbrev shared : ℕ → ℤ → ℤ
shared d (pos a) = pos (a / d)
shared d (negsuc a) = neg_ℤ (pos (suc a / d))

multiple : (d : ℕ) (m : ℤ) → divides d m ≡ true → m ≡ shared d m *ℤ pos d
multiple d (pos a) e = same (n a) (n (a / d) ⊗ n d) (omega (arith, div-add-mod a d, eqb-true (a % d) 0 e))
multiple d (negsuc a) e = same (v (negsuc a)) (⊖ n (suc a / d) ⊗ n d) (omega (arith, div-add-mod (suc a) d, eqb-true (suc a % d) 0 e))

pub multiple_divides : (d : ℕ) (m k : ℤ) → m ≡ k *ℤ pos d → divides d m ≡ true
multiple_divides d m k e = eq-eqb (nat_abs m % d) 0 (ap (λ (t : ℕ). t % d) (ap nat_abs e ∙ abs_mul k (pos d)) ∙ mul-mod_left (nat_abs k) d)

-- sizes alone tell
pub divides_size : (d : ℕ) (m k : ℤ) → nat_abs m ≡ nat_abs k → divides d m ≡ divides d k
divides_size d m k e = ap (λ (a : ℕ). eqb (a % d) 0) e

-- and the fraction's value
whole_too : (a d b c : ℕ) → 0 < d → a * c ≡ b * d → a % d ≡ 0 → b % c ≡ 0
whole_too a d b c D e h =
    let f : a ≡ d * (a / d) = omega (arith, div-add-mod a d) in
    ap (λ (z : ℕ). z % c) (eq_of_mul-eq-mul_right d D b (a / d * c) (omega (arith, ap (λ (z : ℕ). z * c) f))) ∙ mul-mod_left (a / d) c

pub divides_same : (m : ℤ) (d : ℕ) (k : ℤ) (c : ℕ) → 0 < d → 0 < c → m *ℤ pos c ≡ k *ℤ pos d → divides d m ≡ divides c k
divides_same m d k c D C e = by (divides d m) refl
  where
    sizes : nat_abs m * c ≡ nat_abs k * d
    sizes = sym (abs_mul m (pos c)) ∙ ap nat_abs e ∙ abs_mul k (pos d)

    by : (t : Bool) → divides d m ≡ t → t ≡ divides c k
    by true h = sym (eq-eqb (nat_abs k % c) 0 (whole_too (nat_abs m) d (nat_abs k) c D sizes (eqb-true (nat_abs m % d) 0 h)))
    by false h = sym (ne_eqb (nat_abs k % c) 0 (λ w. eqb-false (nat_abs m % d) 0 h (whole_too (nat_abs k) c (nat_abs m) d C (sym sizes) w)))

-- ---- rounded m / d is exact exactly where d divides m
pub rounded_divides : (m : ℤ) (d : ℕ) → 0 < d → divides d m ≡ true → rounded m d *ℤ pos d ≡ m
rounded_divides m d h e =
    let k = multiple d m e in
    ap (λ (z : ℤ). rounded z d *ℤ pos d) k ∙ ap (λ (z : ℤ). z *ℤ pos d) (rounded_exact (shared d m) d h) ∙ sym k

pub divides_rounded : (m : ℤ) (d : ℕ) → rounded m d *ℤ pos d ≡ m → divides d m ≡ true
divides_rounded m d e = multiple_divides d m (rounded m d) (sym e)

-- ---- product
pub product_exact : (s : ℕ) (a b : ℤ) → exact_product s a b ≡ true → product_of s a b *ℤ pos (unit s) ≡ a *ℤ b
product_exact s a b e = rounded_divides (a *ℤ b) (unit s) (unit-pos s) e

pub exact_product_lem : (s : ℕ) (a b : ℤ) → product_of s a b *ℤ pos (unit s) ≡ a *ℤ b → exact_product s a b ≡ true
exact_product_lem s a b e = divides_rounded (a *ℤ b) (unit s) e

-- of 0 it is, and by 0
pub exact_zero : (s : ℕ) (b : ℤ) → exact_product s (pos 0) b ≡ true
exact_zero s b = multiple_divides (unit s) (pos 0 *ℤ b) (pos 0) (zero-*ℤ b ∙ sym (zero-*ℤ (pos (unit s))))

pub exact_by_zero : (s : ℕ) (a : ℤ) → exact_product s a (pos 0) ≡ true
exact_by_zero s a = multiple_divides (unit s) (a *ℤ pos 0) (pos 0) (same (v a ⊗ n 0) (n 0 ⊗ n (unit s)) (omega arith))

pub product_sizes : (s : ℕ) (a b c d : ℤ) → nat_abs a ≡ nat_abs c → nat_abs b ≡ nat_abs d → exact_product s a b ≡ exact_product s c d
product_sizes s a b c d f g = divides_size (unit s) (a *ℤ b) (c *ℤ d) (abs_mul a b ∙ ap₂ ◌*◌ f g ∙ sym (abs_mul c d))

pub square_same : (used : Bool) (s : ℕ) (x : ℤ) → square_exact used s (neg_ℤ x) ≡ square_exact used s x
square_same used s x = ap (λ (t : Bool). cond used t true) (product_sizes s (neg_ℤ x) (neg_ℤ x) x x (abs_neg x) (abs_neg x))

-- ---- quotient. The divisor's sign goes to the numerator and changes no size
moved_back : (q d m : ℤ) → q *ℤ pos (nat_abs d) ≡ with_sign (below_zero d) m → q *ℤ d ≡ m
moved_back q (pos k) m e = e
moved_back q (negsuc k) m e = same (v q ⊗ v (negsuc k)) (v m) (omega (arith, same_out (v q ⊗ n (suc k)) (⊖ v m) e))

moved : (q d m : ℤ) → q *ℤ d ≡ m → q *ℤ pos (nat_abs d) ≡ with_sign (below_zero d) m
moved q (pos k) m e = e
moved q (negsuc k) m e = same (v q ⊗ n (suc k)) (⊖ v m) (omega (arith, same_out (v q ⊗ v (negsuc k)) (v m) e))

sign_divides : (t : Bool) (d : ℕ) (m : ℤ) → divides d (with_sign t m) ≡ divides d m
sign_divides t d m = divides_size d (with_sign t m) m (sign_abs t m)

pub quotient_exact : (s : ℕ) (a d : ℤ) → NotZero d → exact_quotient s a d ≡ true → quotient_of s a d *ℤ d ≡ a *ℤ pos (unit s)
quotient_exact s a d h e =
    let m = a *ℤ pos (unit s) in
    moved_back (quotient_of s a d) d m (rounded_divides (with_sign (below_zero d) m) (nat_abs d) h (sign_divides (below_zero d) (nat_abs d) m ∙ e))

pub exact_quotient_lem : (s : ℕ) (a d : ℤ) → quotient_of s a d *ℤ d ≡ a *ℤ pos (unit s) → exact_quotient s a d ≡ true
exact_quotient_lem s a d e =
    let m = a *ℤ pos (unit s) in
    sym (sign_divides (below_zero d) (nat_abs d) m) ∙ divides_rounded (with_sign (below_zero d) m) (nat_abs d) (moved (quotient_of s a d) d m e)

pub quotient_sizes : (s : ℕ) (a b c d : ℤ) → nat_abs a ≡ nat_abs c → nat_abs b ≡ nat_abs d → exact_quotient s a b ≡ exact_quotient s c d
quotient_sizes s a b c d f g = ap₂ (λ (k j : ℕ). eqb (k % j) 0) (abs_mul a (pos (unit s)) ∙ ap (λ (k : ℕ). k * unit s) f ∙ sym (abs_mul c (pos (unit s)))) g

-- ---- marks together
pub both : (a b : Bool) → (a && b) ≡ true → (a ≡ true) × (b ≡ true)
both a b = (and-eq-true_iff a b).0
