-- How `loose` tells a mark. Of two numbers joined by `or` the last digits are 0 exactly where both numbers' are; a number's lower word has its last 32;
-- and twice a number, with the divisor added to it, leaves the divisor by twice the divisor exactly where the divisor divides the number.
use Rattle.whole.proofs.Basics.{◌≡◌, ◌∙◌, refl, sym, ap, ap₂, Bool, true, false, cond, ℕ, suc, ◌+◌, ◌-◌, ◌*◌, ◌/◌, ◌%◌, ◌^◌, ◌≤◌, ◌<◌, arith, eqb, ℤ, pos, negsuc, neg_ℤ, nat_abs, ◌+ℤ◌, eqb-true, eqb-false, eq-eqb, ne_eqb}
use mathlib.Core.Bool.{◌&&◌}
use native.Mathlib.Nat.{div-add-mod, mul-mod_right, add-mul-mod_self_left, mod-eq_of_lt, zero-mod}
use lib.Bits.{bit_and, bit_or, or_mod, or_add_and, and_le_l, and_le_r, and_mask}
use lib.Pow.{pow-lt, mod-mod-pow}
use lib.Signed.{rem_z}
use Rattle.whole.proofs.Diff.{v, n, ◌⊕◌, ⊖◌, same}
use Rattle.word.specs.Words.{NotZero, below_zero, with_sign}
use Rattle.word.specs.Exact.{divides, whole_at}
use Rattle.word.proofs.RoundedLaws.{twice}
use Rattle.word.proofs.SignLaws.{sign_abs, differ}

-- ---- joined by `or`
or_zero : (a b : ℕ) → eqb (bit_or a b) 0 ≡ (eqb a 0 && eqb b 0)
or_zero a b = by (eqb a 0) (eqb b 0) refl refl
  where
    by : (t u : Bool) → eqb a 0 ≡ t → eqb b 0 ≡ u → eqb (bit_or a b) 0 ≡ (t && u)
    by true true f g = eq-eqb (bit_or a b) 0 (omega (arith, or_add_and a b, eqb-true a 0 f, eqb-true b 0 g))
    by true false f g = ne_eqb (bit_or a b) 0 (λ e. eqb-false b 0 g (omega (arith, or_add_and a b, and_le_l a b)))
    by false u f g = ne_eqb (bit_or a b) 0 (λ e. eqb-false a 0 f (omega (arith, or_add_and a b, and_le_r a b)))

pub or_whole : (s a b : ℕ) → whole_at s (bit_or a b) ≡ (whole_at s a && whole_at s b)
or_whole s a b = ap (λ (k : ℕ). eqb k 0) (or_mod a b s) ∙ or_zero (a % 2 ^ s) (b % 2 ^ s)

-- by the marks that they tell
pub or_marks : (s a b : ℕ) (x y : Bool) → whole_at s a ≡ x → whole_at s b ≡ y → whole_at s (bit_or a b) ≡ (x && y)
or_marks s a b x y f g = or_whole s a b ∙ ap₂ ◌&&◌ f g

-- ---- in the lower word of a number
pub whole_lower : (s n : ℕ) → s ≤ 32 → whole_at s (bit_and n 0xffffffff) ≡ whole_at s n
whole_lower s n h =
    let e : 32 ≡ (32 - s) + s = omega arith in
    ap (whole_at s) (and_mask n 32 ∙ ap (λ (k : ℕ). n % 2 ^ k) e) ∙ ap (λ (k : ℕ). eqb k 0) (mod-mod-pow n (32 - s) s)

-- ---- nothing is loose, or something is
pub whole_none : (s : ℕ) → whole_at s 0 ≡ true
whole_none s = eq-eqb (0 % 2 ^ s) 0 (zero-mod (2 ^ s))

pub whole_some : (s : ℕ) → 0 < s → whole_at s 1 ≡ false
whole_some s h =
    let f : 1 < 2 ^ s = pow-lt {i = 0} {j = s} h in
    ne_eqb (1 % 2 ^ s) 0 (λ e. omega (arith, mod-eq_of_lt f, e))

-- what does not count is 0, and leaves the mark to the rest
pub counted_mark : (used : Bool) (s loose : ℕ) (e : Bool) → whole_at s loose ≡ e → whole_at s (cond used loose 0) ≡ cond used e true
counted_mark true s loose e f = f
counted_mark false s loose e f = whole_none s

-- ---- what a quotient leaves: of naturals, both ways
left_exact : (a b : ℕ) → (a + a + b) % (b + b) ≡ b → a % b ≡ 0
left_exact a b e =
    let q = (a + a + b) / (b + b) in
    let f : a ≡ b * q = omega (arith, div-add-mod (a + a + b) (b + b)) in
    ap (λ (k : ℕ). k % b) f ∙ mul-mod_right b q

exact_left : (a b : ℕ) → 0 < b → a % b ≡ 0 → (a + a + b) % (b + b) ≡ b
exact_left a b h e =
    let f : a + a + b ≡ b + (b + b) * (a / b) = omega (arith, div-add-mod a b) in
    ap (λ (k : ℕ). k % (b + b)) f ∙ add-mul-mod_self_left b (b + b) (a / b) ∙ mod-eq_of_lt (omega arith)

-- and with signs: what is left has the dividend's, and so has the half
left_is : (m d : ℤ) → rem_z (m +ℤ m +ℤ with_sign (differ m d) d) (d +ℤ d) ≡ with_sign (below_zero m) (pos ((nat_abs m + nat_abs m + nat_abs d) % (nat_abs d + nat_abs d)))
left_is (pos a) (pos b) = refl
left_is (pos a) (negsuc b) = ap (λ (k : ℕ). pos ((a + a + suc b) % k)) (twice b)
left_is (negsuc a) (pos b) =
    let e : suc (suc (a + a) + b) ≡ suc a + suc a + b = omega arith in
    ap (λ (z : ℤ). rem_z z (pos (b + b))) (same (v (negsuc (suc (a + a))) ⊕ ⊖ n b) (v (negsuc (suc (a + a) + b))) (omega arith))
    ∙ ap (λ (k : ℕ). neg_ℤ (pos (k % (b + b)))) e
left_is (negsuc a) (negsuc b) =
    let e : suc (suc (suc (a + a) + b)) ≡ suc a + suc a + suc b = omega arith in
    ap₂ (λ (k j : ℕ). neg_ℤ (pos (k % j))) e (twice b)

half_signed : (m d : ℤ) → with_sign (differ m d) d ≡ with_sign (below_zero m) (pos (nat_abs d))
half_signed (pos a) (pos b) = refl
half_signed (pos a) (negsuc b) = refl
half_signed (negsuc a) (pos b) = refl
half_signed (negsuc a) (negsuc b) = refl

pub left_half : (m d : ℤ) → rem_z (m +ℤ m +ℤ with_sign (differ m d) d) (d +ℤ d) ≡ with_sign (differ m d) d → divides (nat_abs d) m ≡ true
left_half m d e =
    let t = below_zero m in
    let k = (nat_abs m + nat_abs m + nat_abs d) % (nat_abs d + nat_abs d) in
    let f : k ≡ nat_abs d = sym (sign_abs t (pos k)) ∙ ap nat_abs (sym (left_is m d) ∙ e ∙ half_signed m d) ∙ sign_abs t (pos (nat_abs d)) in
    eq-eqb (nat_abs m % nat_abs d) 0 (left_exact (nat_abs m) (nat_abs d) f)

pub half_left : (m d : ℤ) → NotZero d → divides (nat_abs d) m ≡ true → rem_z (m +ℤ m +ℤ with_sign (differ m d) d) (d +ℤ d) ≡ with_sign (differ m d) d
half_left m d h e =
    left_is m d
    ∙ ap (λ (k : ℕ). with_sign (below_zero m) (pos k)) (exact_left (nat_abs m) (nat_abs d) h (eqb-true (nat_abs m % nat_abs d) 0 e))
    ∙ sym (half_signed m d)
