-- `turn::argument` meets its contract: f is divided by a shift that rounds, what it gives is at most one, and the last digits of f tell the mark.
use Rattle.whole.proofs.Basics.{◌≡◌, ◌∙◌, ap, ◌-◌, ◌^◌, ◌≤◌, arith, ℤ, pos, nat_abs, w32, w64}
use Rattle.std.proofs.Common.{pow_mono}
use Rattle.whole.proofs.Diff.{n}
use Rattle.whole.proofs.Fit.{fit, fit_abs}
use Rattle.whole.proofs.Held.{back, Held, fits_code, held, arg, known, cast}
use Rattle.word.specs.Rounded.{rounded}
use Rattle.turn.specs.Angles.{quarter_turn, quarter_of, rest_of, argument_of}
use Rattle.turn.proofs.ArgumentLaws.{rest_most, folded_most, argument_size}
use Rattle.turn.proofs.argument.Goals as goal
use Rattle.turn.proofs.argument.Goals.{After-rounded_shift-r}

-- ---- what is handed on, and what comes back
module _ (c : After-rounded_shift-r) where
  f-most : c.folded.result ≤ quarter_turn
  f-most = rw c.folded.ensures (folded_most (quarter_of c.args.angle) (rest_of c.args.angle) (rest_most c.args.angle))

  held-f : Held w64 (pos c.folded.result) (pos c.folded.result)
  held-f = arg (fit (n c.folded.result) (omega (arith, f-most)))

  is-argument : c.rounded_shift-r.result.value ≡ argument_of c.args.s c.args.angle
  is-argument =
      c.rounded_shift-r.ensures.value
      ∙ ap (λ (z : ℤ). rounded z (2 ^ (30 - c.args.s))) (held held-f ∙ ap pos c.folded.ensures)

  size : nat_abs (argument_of c.args.s c.args.angle) ≤ 2 ^ 28
  size =
      let b = c.args.angle in
      omega (arith, argument_size c.args.s (quarter_of b) (rest_of b) c.requires (rest_most b), pow_mono {i = c.args.s} {j = 28} c.requires.most)

  held-argument : Held w32 (back w64 c.rounded_shift-r.result.value) (argument_of c.args.s c.args.angle)
  held-argument = cast {w = w64} (known is-argument (fit_abs (omega (arith, size)))) (fit_abs (omega (arith, size)))

pub overflow_cast-word : goal.overflow_cast-word
overflow_cast-word c = fits_code (held-argument (goal.at.overflow_cast-word c).After-rounded_shift-r)

pub returns-clause-word : goal.returns-clause-word
returns-clause-word c = held (held-argument (goal.at.returns-clause-word c).After-rounded_shift-r)
