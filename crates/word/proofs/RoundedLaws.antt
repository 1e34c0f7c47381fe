-- The laws of rounding: odd, how near, where a tie goes, that these two determine the result, how large, exact where it divides. They are laws of
-- naturals, carried to the numbers below zero. A change of the tie rule changes `rounded_odd`, `rounded_tie`, `rounded_determined` and what the
-- functions use; the other laws keep their statements.
use Rattle.whole.proofs.Basics.{◌≡◌, ◌∙◌, refl, sym, ap, ap₂, Bool, true, false, ℕ, suc, zero, ◌+◌, ◌-◌, ◌*◌, ◌/◌, ◌≤◌, ◌<◌, arith, ℤ, pos, negsuc, neg_ℤ, nat_abs, ◌+ℤ◌, ◌-ℤ◌, ◌*ℤ◌}
use native.Mathlib.Decide.{dec_le}
use native.Mathlib.Nat.{div-add-mod, div-zero, mod-lt, lt_of_mul-lt-mul_left}
use lib.IntN.{neg_ℤ-neg_ℤ}
use lib.Signed.{quot_z}
use Rattle.whole.proofs.Diff.{v, n, ◌⊕◌, ◌⊗◌, ◌⊝◌, ⊖◌, same, same_out, size}
use Rattle.whole.proofs.Order.{abs_neg}
use Rattle.word.specs.Rounded.{half_up, rounded, rounded_up}
use Rattle.word.specs.Words.{below_zero, with_sign}
use Rattle.word.proofs.NearestLaws.{half_low, half_high, half_is, half_zero, half_same}
use Rattle.word.proofs.SignLaws.{differ}

-- ---- rounded up
pub up_above : (a d : ℕ) → 0 < d → a ≤ rounded_up a d * d
unfolding rounded_up
up_above a d h = omega (arith, div-add-mod (a + (d - 1)) d, mod-lt (a + (d - 1)) h)

pub up_least : (a d k : ℕ) → 0 < d → a ≤ k * d → rounded_up a d ≤ k
unfolding rounded_up
up_least a d k h f = omega (arith, lt_of_mul-lt-mul_left d {m = (a + (d - 1)) / d} {n = k + 1} (omega (arith, div-add-mod (a + (d - 1)) d)))

pub up_mono : (a b d : ℕ) → 0 < d → a ≤ b → rounded_up a d ≤ rounded_up b d
up_mono a b d h f = up_least a d (rounded_up b d) h (omega (arith, up_above b d h))

-- ---- rounded to the nearest is odd: the other sign gives the other sign
pub rounded_odd : (m : ℤ) (d : ℕ) → rounded (neg_ℤ m) d ≡ neg_ℤ (rounded m d)
unfolding rounded
rounded_odd (pos zero) d = ap pos (half_zero d) ∙ sym (ap (λ (k : ℕ). neg_ℤ (pos k)) (half_zero d))
rounded_odd (pos (suc a)) d = refl
rounded_odd (negsuc a) d = sym (neg_ℤ-neg_ℤ (pos (half_up (suc a) d)))

-- by 0 it is 0, so that laws of quotients need not leave it out
pub rounded_none : (m : ℤ) → rounded m 0 ≡ pos 0
unfolding rounded
rounded_none (pos a) = ap pos (div-zero (a + a + 0))
rounded_none (negsuc a) = ap (λ (k : ℕ). neg_ℤ (pos k)) (div-zero (suc a + suc a + 0))

-- what a law of all numbers takes from one of naturals
natural : (a d q : ℕ) → 0 < d → 2 * (d * q) ≤ 2 * a + d → 2 * a + d < 2 * (d * q) + 2 * d → rounded (pos a) d ≡ pos q
unfolding rounded
natural a d q h f g = ap pos (half_is a d q h f g)

from_odd : (a d : ℕ) (q : ℤ) → rounded (pos (suc a)) d ≡ neg_ℤ q → rounded (negsuc a) d ≡ q
unfolding rounded
from_odd a d q e = ap neg_ℤ e ∙ neg_ℤ-neg_ℤ q

-- nearest: twice the distance is at most the divisor
pub rounded_near : (m : ℤ) (d : ℕ) → 0 < d → 2 * nat_abs (rounded m d *ℤ pos d -ℤ m) ≤ d
unfolding rounded
rounded_near (pos a) d h = omega (arith, size (n (half_up a d) ⊗ n d ⊝ n a), half_low a d h, half_high a d h)
rounded_near (negsuc a) d h = omega (arith, size (⊖ n (half_up (suc a) d) ⊗ n d ⊝ v (negsuc a)), half_low (suc a) d h, half_high (suc a) d h)

-- what decides a tie: of the two nearest it is the one that is not nearer to zero than the fraction
pub rounded_tie : (m : ℤ) (d : ℕ) → 0 < d → 2 * nat_abs (rounded m d *ℤ pos d -ℤ m) ≡ d → nat_abs m ≤ nat_abs (rounded m d) * d
unfolding rounded
rounded_tie (pos a) d h e = omega (arith, size (n (half_up a d) ⊗ n d ⊝ n a), half_low a d h, half_high a d h)
rounded_tie (negsuc a) d h e = rw (abs_neg (pos (half_up (suc a) d))) (omega (arith, size (⊖ n (half_up (suc a) d) ⊗ n d ⊝ v (negsuc a)), half_low (suc a) d h, half_high (suc a) d h))

-- these two determine it
determined : (a d : ℕ) (q : ℤ) → 0 < d → 2 * nat_abs (q *ℤ pos d -ℤ pos a) ≤ d → (2 * nat_abs (q *ℤ pos d -ℤ pos a) ≡ d → a ≤ nat_abs q * d) → rounded (pos a) d ≡ q
determined a d (negsuc b) h f t = absurd (omega (arith, size (v (negsuc b) ⊗ n d ⊝ n a)))
determined a d (pos b) h f t = by (dec_le d (2 * nat_abs (pos b *ℤ pos d -ℤ pos a)))
  where
    by : Dec (d ≤ 2 * nat_abs (pos b *ℤ pos d -ℤ pos a)) → rounded (pos a) d ≡ pos b
    by (yes k) =
        let e : 2 * nat_abs (pos b *ℤ pos d -ℤ pos a) ≡ d = omega arith in
        let g = t e in
        natural a d b h (omega (arith, size (n b ⊗ n d ⊝ n a))) (omega (arith, size (n b ⊗ n d ⊝ n a)))
    by (no k) = natural a d b h (omega (arith, size (n b ⊗ n d ⊝ n a))) (omega (arith, size (n b ⊗ n d ⊝ n a)))

mirrored : (q m : ℤ) (d : ℕ) → nat_abs (neg_ℤ q *ℤ pos d -ℤ neg_ℤ m) ≡ nat_abs (q *ℤ pos d -ℤ m)
mirrored q m d = omega (arith, size (⊖ v q ⊗ n d ⊝ ⊖ v m), size (v q ⊗ n d ⊝ v m))

pub rounded_determined : (m : ℤ) (d : ℕ) (q : ℤ) → 0 < d → 2 * nat_abs (q *ℤ pos d -ℤ m) ≤ d → (2 * nat_abs (q *ℤ pos d -ℤ m) ≡ d → nat_abs m ≤ nat_abs q * d) → rounded m d ≡ q
rounded_determined (pos a) d q h f t = determined a d q h f t
rounded_determined (negsuc a) d q h f t =
    let e = mirrored q (negsuc a) d in
    from_odd a d q (determined (suc a) d (neg_ℤ q) h (omega (arith, e)) (λ k. rw (abs_neg q) (t (omega (arith, e)))))

-- size: at most the fraction rounded up
half_size : (a d : ℕ) → 0 < d → half_up a d ≤ rounded_up a d
half_size a d h = omega (arith, lt_of_mul-lt-mul_left (2 * d) {m = half_up a d} {n = rounded_up a d + 1} (omega (arith, half_low a d h, up_above a d h)))

pub rounded_size : (m : ℤ) (d : ℕ) → 0 < d → nat_abs (rounded m d) ≤ rounded_up (nat_abs m) d
unfolding rounded
rounded_size (pos a) d h = half_size a d h
rounded_size (negsuc a) d h = rw (abs_neg (pos (half_up (suc a) d))) (half_size (suc a) d h)

-- exact where it divides
pub rounded_exact : (k : ℤ) (d : ℕ) → 0 < d → rounded (k *ℤ pos d) d ≡ k
rounded_exact (pos a) d h = natural (a * d) d a h (omega arith) (omega arith)
rounded_exact (negsuc a) d h = rounded_odd (pos (suc a * d)) d ∙ ap neg_ℤ (natural (suc a * d) d (suc a) h (omega arith) (omega arith))

-- it sees only the fraction's value
pub rounded_same : (m : ℤ) (d : ℕ) (k : ℤ) (c : ℕ) → 0 < d → 0 < c → m *ℤ pos c ≡ k *ℤ pos d → rounded m d ≡ rounded k c
unfolding rounded
rounded_same (pos a) d (pos b) c D C e = ap pos (half_same a d b c D C (omega (arith, same_out (n a ⊗ n c) (n b ⊗ n d) e)))
rounded_same (pos a) d (negsuc b) c D C e = absurd (omega (arith, same_out (n a ⊗ n c) (v (negsuc b) ⊗ n d) e))
rounded_same (negsuc a) d (pos b) c D C e = absurd (omega (arith, same_out (v (negsuc a) ⊗ n c) (n b ⊗ n d) e))
rounded_same (negsuc a) d (negsuc b) c D C e = ap (λ (k : ℕ). neg_ℤ (pos k)) (half_same (suc a) d (suc b) c D C (omega (arith, same_out (v (negsuc a) ⊗ n c) (v (negsuc b) ⊗ n d) e)))

-- ---- for the function that rounds a size, and puts the sign back
pub rounded_sign : (t : Bool) (a d : ℕ) → rounded (with_sign t (pos a)) d ≡ with_sign t (pos (half_up a d))
unfolding rounded
rounded_sign true a d = rounded_odd (pos a) d
rounded_sign false a d = refl

-- ---- for the function that divides 2·m by 2·d, and so rounds towards zero: d is added first, away from zero
pub twice : (k : ℕ) → suc (suc (k + k)) ≡ suc k + suc k
twice k = omega arith

pub divided_is : (m d : ℤ) → quot_z (m +ℤ m +ℤ with_sign (differ m d) d) (d +ℤ d) ≡ rounded (with_sign (below_zero d) m) (nat_abs d)
unfolding rounded
divided_is (pos a) (pos b) = refl
divided_is (pos a) (negsuc b) = ap (λ (k : ℕ). neg_ℤ (pos ((a + a + suc b) / k))) (twice b) ∙ sym (rounded_odd (pos a) (suc b))
divided_is (negsuc a) (pos b) =
    let e : suc (suc (a + a) + b) ≡ suc a + suc a + b = omega arith in
    ap (λ (z : ℤ). quot_z z (pos (b + b))) (same (v (negsuc (suc (a + a))) ⊕ ⊖ n b) (v (negsuc (suc (a + a) + b))) (omega arith))
    ∙ ap (λ (k : ℕ). neg_ℤ (pos (k / (b + b)))) e
divided_is (negsuc a) (negsuc b) =
    let e : suc (suc (suc (a + a) + b)) ≡ suc a + suc a + suc b = omega arith in
    ap₂ (λ (k j : ℕ). pos (k / j)) e (twice b)
