-- A word as a double, divided by 2^s as a double, is exact: each of the two is exact, and so is the rounding of w / 2^s.
use Rattle.whole.proofs.Basics.{◌≡◌, ◌∙◌, refl, sym, ap, subst, Bool, true, false, cond, ℕ, suc, zero, ◌+◌, ◌-◌, ◌*◌, ◌^◌, ◌≤◌, ◌<◌, arith, eqb, ℤ, pos, negsuc, nat_abs, ne_eqb}
use native.Mathlib.Nat.{le_of_lt, lt_of_lt_of_le, mul_assoc, mul-pos}
use lib.Pow.{pow-add, pow_pos, pow_mono, shl_lt}
use lib.Ieee.{Float, nan, inf, fin, Format, binary64, prec, emax, low, up, down, unlike, round, div, of_int}
use lib.Ieee.Digits.{back}
use lib.Ieee.Fits.{up_pos, down_pos, reach, div-fits}
use lib.Ieee.Exact.{HasValue, round_exact}
use lib.Ieee.Back.{round_whole}
use lib.Ieee.Scale.{round_same}
use Rattle.word.specs.Words.{unit, below_zero}
use Rattle.door.specs.Exact.{Exactly}

room : (p e l k : ℕ) → p ≤ suc e → p + (l - k) ≤ l + suc e
room p e l k h = omega arith

-- a / 2^k is rounded to itself
fraction_value : (f : Format) (s : Bool) (a k : ℕ) → a < 2 ^ prec f → k ≤ low f → HasValue (round f s a (2 ^ k)) s a (2 ^ k)
fraction_value f s a k small h =
    round_exact f s a (2 ^ k) a (low f - k) (pow_pos k) small
    (lt_of_lt_of_le (shl_lt (prec f) (low f - k) small) (pow_mono (room (prec f) (emax f) (low f) k (reach f))))
    (ap (λ (z : ℕ). a * z) (ap (λ (z : ℕ). 2 ^ z) (sym (back (low f) k h)) ∙ pow-add 2 (low f - k) k) ∙ sym (mul_assoc a (2 ^ (low f - k)) (2 ^ k)))

int_value : (f : Format) (w : ℤ) → nat_abs w ≤ 2 ^ prec f → HasValue (of_int f w) (below_zero w) (nat_abs w) 1
unfolding of_int
int_value f (pos n) h = round_whole f false n h
int_value f (negsuc n) h = round_whole f true (suc n) h

-- ---- the quotient of two whole numbers
over_positive : (t : Bool) → unlike t false ≡ t
over_positive true = refl
over_positive false = refl

ratio : (x y a p d g : ℕ) → x * 1 ≡ a * d → y * 1 ≡ p * g → x * g * p ≡ a * (y * d)
ratio x y a p d g h k = omega (arith, ap (λ (z : ℕ). z * g * p) h, ap (λ (z : ℕ). a * z * d) k)

not_zero : (n p : ℕ) (e : ℤ) → 0 < p → n * up e * 1 ≡ p * down e → 0 < n
not_zero zero p e P h = absurd (omega (arith, mul-pos P (down_pos e)))
not_zero (suc n) p e P h = omega arith

quotient_is : (f : Format) (x y : Float) (s : Bool) (a p : ℕ) → 0 < p → HasValue x s a 1 → HasValue y false p 1 → div f x y ≡ round f s a p
unfolding div
quotient_is f nan y s a p P v w = elim v [ ]
quotient_is f (inf _) y s a p P v w = elim v [ ]
quotient_is f (fin t m e) nan s a p P v w = elim w [ ]
quotient_is f (fin t m e) (inf _) s a p P v w = elim w [ ]
quotient_is f (fin t m e) (fin u n g) s a p P v w =
    let above = not_zero n p g P w.1 in
    ap (λ (b : Bool). cond b (cond (eqb m 0) nan (inf (unlike t u))) (round f (unlike t u) (m * up e * down g) (n * up g * down e))) (ne_eqb n 0 (λ h. omega arith))
    ∙ ap (λ (b : Bool). round f b (m * up e * down g) (n * up g * down e)) (ap (unlike t) w.0 ∙ over_positive t ∙ v.0)
    ∙ round_same f s (m * up e * down g) (n * up g * down e) a p (mul-pos (mul-pos above (up_pos g)) (down_pos e)) P (ratio (m * up e) (n * up g) a p (down e) (down g) v.1 w.1)

pub exactly_quotient : (s : ℕ) (w : ℤ) → s ≤ 53 → nat_abs w < 2 ^ 53 → Exactly s w (div binary64 (of_int binary64 w) (of_int binary64 (pos (unit s))))
exactly_quotient s w h small =
    let quotient = quotient_is binary64 (of_int binary64 w) (of_int binary64 (pos (unit s))) (below_zero w) (nat_abs w) (unit s) (pow_pos s) (int_value binary64 w (le_of_lt small)) (int_value binary64 (pos (unit s)) (pow_mono h)) in
    record {
      held = div-fits binary64 (of_int binary64 w) (of_int binary64 (pos (unit s)));
      value = subst (λ (x : Float). HasValue x (below_zero w) (nat_abs w) (unit s)) (sym quotient) (fraction_value binary64 (below_zero w) (nat_abs w) s small (omega arith));
    }
