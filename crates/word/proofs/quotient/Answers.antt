-- `word::quotient` meets its contract: twice the scaled dividend, with the divisor added away from zero, is what `divided_is` speaks of, `left_half` and
-- `half_left` say what the remainder tells, and nothing wraps.
use Rattle.whole.proofs.Basics.{◌≡◌, ◌∙◌, sym, ap, ap₂, Bool, not, ℕ, ◌*◌, ◌%◌, ◌^◌, ◌<◌, arith, ℤ, pos, nat_abs, ◌+ℤ◌, ◌*ℤ◌, w32, w64, to_z, of_z, lt_z, SFits, eq-eqb, ne_eqb}
use mathlib.Core.Bool.{beq}
use lib.Pow.{pow_pos}
use lib.Signed.{quot_z, rem_z}
use Rattle.whole.proofs.Diff.{v, ◌⊕◌, size}
use Rattle.whole.proofs.Fit.{fit_abs}
use Rattle.whole.proofs.Held.{back, Held, fits_code, held, arg, known, wider, shl, plus, quot, remainder, divisor, quot_fits}
use Rattle.whole.proofs.Order.{abs_add, abs_mul}
use Rattle.word.specs.Words.{with_sign}
use Rattle.word.proofs.RoundedLaws.{divided_is}
use Rattle.word.proofs.LooseLaws.{whole_none, whole_some, left_half, half_left}
use Rattle.word.proofs.SignLaws.{below_read, below_scaled, sign_abs, differ}
use Rattle.word.proofs.WordLaws.{scaled_most}
use Rattle.word.proofs.quotient.Goals as goal
use Rattle.word.proofs.quotient.Goals.{Start, After-with_sign-half}

-- ---- what the locals hold
module _ (c : Start) where
  abbrev a : ℤ
  a = c.args.a

  abbrev d : ℤ
  d = c.args.d

  abbrev u : ℕ
  u = 2 ^ c.args.s

  abbrev m : ℤ
  m = a *ℤ pos u

  -- whether the signs differ, and the divisor with the dividend's sign
  abbrev sign : Bool
  sign = differ m d

  abbrev half : ℤ
  half = with_sign sign d

  abbrev sum : ℤ
  sum = m +ℤ m +ℤ half

  held-a : Held w64 (back w32 a) a
  held-a = wider tt (arg c.ranges.a)

  held-d : Held w64 (back w32 d) d
  held-d = wider tt (arg c.ranges.d)

  m-most : nat_abs m < 2 ^ 60
  m-most = omega (arith, abs_mul a (pos u), scaled_most (nat_abs a) c.args.s (omega (arith, c.requires.1)) c.requires.0.most)

  m-is : to_z w64 (of_z w64 (back w32 a) * u % 2 ^ 64) ≡ m
  m-is = shl u (pow_pos c.args.s) held-a (fit_abs (omega (arith, m-most)))

  half-most : nat_abs half < 2 ^ 31
  half-most = omega (arith, sign_abs sign d, c.requires.2)

  sum-most : nat_abs sum < 2 ^ 62
  sum-most = omega (arith, abs_add (m +ℤ m) half, abs_add m m, m-most, half-most)

  abbrev twice : ℤ
  twice = to_z w64 (of_z w64 (back w32 a) * u % 2 ^ 64) +ℤ to_z w64 (of_z w64 (back w32 a) * u % 2 ^ 64)

  held-twice : Held w64 twice (m +ℤ m)
  held-twice = known (ap₂ ◌+ℤ◌ m-is m-is) (fit_abs (omega (arith, abs_add m m, m-most)))

  held-divisor : Held w64 (back w64 (back w32 d) +ℤ back w64 (back w32 d)) (d +ℤ d)
  held-divisor = plus held-d held-d (fit_abs (omega (arith, abs_add d d, c.requires.2)))

module _ (c : After-with_sign-half) where
  abbrev start : Start
  start = c.before

  sign_is : not (beq (lt_z (back w32 (a start)) (pos 0)) (lt_z (back w32 (d start)) (pos 0))) ≡ sign start
  sign_is =
      ap₂ (λ (x y : Bool). not (beq x y))
      (below_read start.ranges.a ∙ below_scaled (a start) (u start) (pow_pos start.args.s))
      (below_read start.ranges.d)

  held-half : Held w64 c.with_sign-half.result (half start)
  held-half = known (c.with_sign-half.ensures ∙ ap₂ with_sign sign_is (held (held-d start))) (fit_abs (omega (arith, half-most start)))

  held-sum : Held w64 (back w64 (twice start) +ℤ back w64 c.with_sign-half.result) (sum start)
  held-sum = plus (held-twice start) held-half (fit_abs (omega (arith, sum-most start)))

  held-quotient : Held w64 (quot_z (back w64 (back w64 (twice start) +ℤ back w64 c.with_sign-half.result)) (back w64 (back w64 (back w32 (d start)) +ℤ back w64 (back w32 (d start))))) (quot_z (sum start) (d start +ℤ d start))
  held-quotient = quot held-sum (held-divisor start) (quot_fits (sum start) (d start +ℤ d start) (omega (arith, sum-most start)))

  -- what is left over, and that the test tells whether it is the half alone
  abbrev left : ℤ
  left = rem_z (sum start) (d start +ℤ d start)

  held-left : Held w64 (rem_z (back w64 (back w64 (twice start) +ℤ back w64 c.with_sign-half.result)) (back w64 (back w64 (back w32 (d start)) +ℤ back w64 (back w32 (d start))))) left
  held-left = remainder held-sum (held-divisor start)

  same_left : of_z w64 (rem_z (back w64 (back w64 (twice start) +ℤ back w64 c.with_sign-half.result)) (back w64 (back w64 (back w32 (d start)) +ℤ back w64 (back w32 (d start))))) ≡ of_z w64 c.with_sign-half.result → left ≡ half start
  same_left e = sym (held held-left) ∙ ap (to_z w64) e ∙ held held-half

  left-same : left ≡ half start → of_z w64 (rem_z (back w64 (back w64 (twice start) +ℤ back w64 c.with_sign-half.result)) (back w64 (back w64 (back w32 (d start)) +ℤ back w64 (back w32 (d start))))) ≡ of_z w64 c.with_sign-half.result
  left-same e = ap (of_z w64) (held-left.eq ∙ e ∙ sym held-half.eq)

  nonzero : (0 < of_z w64 (back w64 (back w32 (d start)) +ℤ back w64 (back w32 (d start)))) × SFits w64 (quot_z (back w64 (back w64 (twice start) +ℤ back w64 c.with_sign-half.result)) (back w64 (back w64 (back w32 (d start)) +ℤ back w64 (back w32 (d start)))))
  nonzero = (divisor (held-divisor start) (omega (arith, size (v (d start) ⊕ v (d start)), size (v (d start)), start.requires.3)), fits_code held-quotient)

pub overflow_add-n : goal.overflow_add-n
overflow_add-n c = fits_code (held-twice (goal.at.overflow_add-n c).Start)

pub overflow_add-n-2 : goal.overflow_add-n-2
overflow_add-n-2 c = fits_code (held-sum (goal.at.overflow_add-n-2 c).After-with_sign-half)

pub nonzero_div-value : goal.nonzero_div-value
nonzero_div-value c = nonzero (goal.at.nonzero_div-value c).After-with_sign-half

pub nonzero_rem-n : goal.nonzero_rem-n
nonzero_rem-n c = nonzero (goal.at.nonzero_rem-n c).After-with_sign-half

pub returns-then-n-by : goal.returns-then-n-by
returns-then-n-by c =
    let b = (goal.at.returns-then-n-by c).After-with_sign-half in
    let k = start b in
    record { value = held (held-quotient b) ∙ divided_is (m k) (d k); mark = whole_none k.args.s ∙ sym (left_half (m k) (d k) (same_left b c.if-n-by.true)) }

pub returns-else-n-by : goal.returns-else-n-by
returns-else-n-by c =
    let b = (goal.at.returns-else-n-by c).After-with_sign-half in
    let k = start b in
    let left = nat_abs (m k) % nat_abs (d k) in
    record { value = held (held-quotient b) ∙ divided_is (m k) (d k); mark = whole_some k.args.s (omega (arith, k.requires.0.least)) ∙ sym (ne_eqb left 0 (λ e. c.if-n-by.false (left-same b (half_left (m k) (d k) k.requires.3 (eq-eqb left 0 e))))) }
