-- `turn::span_fault` meets its contract: a test for each end.
use Rattle.whole.proofs.Basics.{◌≡◌, refl, Bool, true, false, ℕ, ◌^◌, ◌<◌, arith, ℤ, pos, lt_z, w32, SFits, to_z-of_z}
use Rattle.std.proofs.Common.{pow_mono}
use Rattle.whole.proofs.Diff.{n}
use Rattle.whole.proofs.Fit.{fit}
use Rattle.whole.proofs.Held.{back, Held, fits_code, held, arg}
use Rattle.word.specs.Words.{Scale, unit}
use Rattle.turn.specs.Sine.{span_fault}
use Rattle.turn.proofs.span_fault.Goals as goal
use Rattle.turn.proofs.span_fault.Goals.{then-lo-gt0-via-then-lo-gt0, then-lo-gt0-via-else-lo-gt0+then-hi-power_of_two}

-- one, as a word
held_one : (s one : ℕ) → Scale s → one ≡ unit s → Held w32 (pos one) (pos one)
held_one s one scale e =
    let most : one < 2 ^ 31 = omega (arith, e, pow_mono {i = s} {j = 28} scale.most) in
    arg (fit (n one) (omega (arith, most)))

-- the two tests, of the numbers that are held
above : (lo : ℤ) (t : Bool) → SFits w32 lo → lt_z (pos 0) (back w32 lo) ≡ t → lt_z (pos 0) lo ≡ t
above lo t f e = rw (to_z-of_z f) at e

below : (s one : ℕ) (hi : ℤ) (t : Bool) → Scale s → one ≡ unit s → SFits w32 hi → lt_z (back w32 hi) (back w32 (pos one)) ≡ t → lt_z hi (pos (unit s)) ≡ t
below s one hi t scale q f e = rw (to_z-of_z f, held (held_one s one scale q), q) at e

pub overflow_cast-power_of_two : goal.overflow_cast-power_of_two
overflow_cast-power_of_two c = fits_code (held_one c.args.s c.power_of_two.result c.requires c.power_of_two.ensures)

pub returns-then-lo-gt0 : goal.returns-then-lo-gt0
unfolding span_fault
returns-then-lo-gt0 c =
    elim c.then-lo-gt0.branch [
      | then-lo-gt0-via-then-lo-gt0 w ↦ rw (above c.args.lo true c.ranges.lo w.if-lo-gt0.true) refl
      | then-lo-gt0-via-else-lo-gt0+then-hi-power_of_two w ↦ rw (above c.args.lo false c.ranges.lo w.if-lo-gt0.false, below c.args.s w.power_of_two.result c.args.hi true c.requires w.power_of_two.ensures c.ranges.hi w.if-hi-power_of_two.true) refl
    ]

pub returns : goal.returns
unfolding span_fault
returns c = rw (above c.args.lo false c.ranges.lo c.if-lo-gt0.false, below c.args.s c.power_of_two.result c.args.hi false c.requires c.power_of_two.ensures c.ranges.hi c.if-hi-power_of_two.false) refl
