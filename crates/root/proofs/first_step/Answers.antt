-- `root::first_step` meets its contract: the shifted 1 is the start, which is above the root, so that the quotient is short.
use Rattle.whole.proofs.Basics.{◌≡◌, ◌∙◌, ap, ap₂, ℕ, ◌+◌, ◌-◌, ◌*◌, ◌/◌, ◌%◌, ◌^◌, ◌≤◌, ◌<◌, arith}
use native.Mathlib.Nat.{mod-eq_of_lt, one-mul, lt_of_mul-lt-mul_left}
use lib.Count.{count_leading_zeros, leading_length}
use lib.Pow.{pow-lt}
use Rattle.root.specs.Heron.{digits, start}
use Rattle.root.proofs.DigitsLaws.{digits_of, digits_one}
use Rattle.root.proofs.HeronLaws.{part, start_above, start-pos, exponent_most, start_most}
use Rattle.root.proofs.first_step.Goals as goal

-- the code's exponent
abbrev half : ℕ → ℕ
half v = (64 - count_leading_zeros 64 v + 1) / 2

module _ (v : ℕ) (h : v < 2 ^ 60) where
  half_is : half v ≡ (digits v + 1) / 2
  half_is =
      let wide : v < 2 ^ 64 = omega arith in
      let l = leading_length 64 v wide in
      omega (arith, l.1, digits_one v l.0 (digits v) (record { below = l.2; least = l.3 }) (digits_of v))

  half-most : half v ≤ 30
  half-most = omega (arith, half_is, exponent_most v h)

  shifted : 1 * 2 ^ half v % 2 ^ 32 ≡ start v
  shifted = mod-eq_of_lt (rw one-mul (pow-lt {j = 32} (omega (arith, half-most)))) ∙ one-mul (2 ^ half v) ∙ ap (λ (k : ℕ). 2 ^ k) half_is

  divided : v / 2 ^ half v ≡ v / start v
  divided = ap (λ (k : ℕ). v / 2 ^ k) half_is

  -- the start is above the root, so that the quotient is below it
  below : v / start v < start v
  below = lt_of_mul-lt-mul_left (start v) {m = v / start v} {n = start v} (omega (arith, part v (start v) (start-pos v), start_above v))

  quotient_fits : v / 2 ^ half v < 2 ^ 30
  quotient_fits = omega (arith, divided, below, start_most v h)

pub overflow_shl-result : goal.overflow_shl-result
overflow_shl-result c = omega (arith, half-most c.args.v c.requires)

pub overflow_cast-result-2 : goal.overflow_cast-result-2
overflow_cast-result-2 c = record { fits = omega (arith, quotient_fits c.args.v c.requires) }

pub overflow_add-result : goal.overflow_add-result
overflow_add-result c =
    let v = c.args.v in
    record { fits = omega (arith, shifted v c.requires, start_most v c.requires, quotient_fits v c.requires) }

pub returns : goal.returns
returns c = ap₂ (λ (a b : ℕ). (a + b) / 2) (shifted c.args.v c.requires) (divided c.args.v c.requires)
