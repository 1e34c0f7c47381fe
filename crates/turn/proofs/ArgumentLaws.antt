-- The argument that an angle gives lies from 0 to one: f is at most a quarter turn, which is one.
use Rattle.whole.proofs.Basics.{◌≡◌, ◌∙◌, sym, ap, Bool, true, false, cond, ℕ, ◌+◌, ◌-◌, ◌*◌, ◌%◌, ◌^◌, ◌≤◌, ◌<◌, arith, eqb, ℤ, pos, negsuc, nat_abs, ◌-ℤ◌, ◌*ℤ◌, ◌≤ℤ◌}
use Rattle.std.proofs.Common.{pow_pos, pow-add}
use Rattle.whole.proofs.Diff.{v, n, ◌⊗◌, ◌⊝◌, size}
use Rattle.whole.proofs.Order.{pos_le}
use Rattle.word.specs.Words.{Scale, unit}
use Rattle.word.proofs.RoundedLaws.{rounded_near, rounded_size, up_least}
use Rattle.turn.specs.Angles.{quarter_turn, rest_of, folded_in, argument_in}

pub rest_most : (a : ℕ) → rest_of a ≤ quarter_turn
rest_most a = omega arith

pub folded_most : (quarter f : ℕ) → f ≤ quarter_turn → folded_in quarter f ≤ quarter_turn
folded_most quarter f h = at (eqb (quarter % 2) 1)
  where
    at : (b : Bool) → cond b (quarter_turn - f) f ≤ quarter_turn
    at true = omega arith
    at false = h

-- a quarter turn holds one as often as a step has parts
pub quarter_is : (s : ℕ) → Scale s → unit s * 2 ^ (30 - s) ≡ quarter_turn
quarter_is s h =
    let e : s + (30 - s) ≡ 30 = omega (arith, h.most) in
    sym (pow-add 2 s (30 - s)) ∙ ap (λ (k : ℕ). 2 ^ k) e

-- ---- what is not below 0 does not round below 0
not_negative : (a d : ℕ) (q : ℤ) → 0 < d → 2 * nat_abs (q *ℤ pos d -ℤ pos a) ≤ d → pos 0 ≤ℤ q
not_negative a d (pos k) h e = pos_le (omega arith)
not_negative a d (negsuc k) h e = absurd (omega (arith, size (v (negsuc k) ⊗ n d ⊝ n a)))

module _ (s quarter f : ℕ) where
  abbrev parts : ℕ
  parts = 2 ^ (30 - s)

  pub argument_low : pos 0 ≤ℤ argument_in s quarter f
  argument_low = not_negative (folded_in quarter f) parts (argument_in s quarter f) (pow_pos (30 - s)) (rounded_near (pos (folded_in quarter f)) parts (pow_pos (30 - s)))

  pub argument_size : Scale s → f ≤ quarter_turn → nat_abs (argument_in s quarter f) ≤ unit s
  argument_size scale h =
      let d = pow_pos (30 - s) in
      let u = up_least (folded_in quarter f) parts (unit s) d (omega (arith, folded_most quarter f h, quarter_is s scale)) in
      omega (arith, rounded_size (pos (folded_in quarter f)) parts d, u)

  pub argument_high : Scale s → f ≤ quarter_turn → argument_in s quarter f ≤ℤ pos (unit s)
  argument_high scale h = below_by (argument_in s quarter f) argument_low (argument_size scale h)
    where
      below_by : (x : ℤ) → pos 0 ≤ℤ x → nat_abs x ≤ unit s → x ≤ℤ pos (unit s)
      below_by (pos k) l m = pos_le m
      below_by (negsuc k) l m = absurd (omega (arith, l))
