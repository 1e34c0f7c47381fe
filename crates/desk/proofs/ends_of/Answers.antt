-- `desk::ends_of` meets its contract: both ends are shown exactly.
use Rattle.whole.proofs.Basics.{subst, arith, ℤ, w32}
use Rattle.whole.proofs.Held.{held, known}
use Rattle.whole.proofs.Fit.{fit_abs}
use Rattle.door.specs.Exact.{Exactly}
use Rattle.layout.specs.Fields.{formula_of}
use Rattle.sheet.proofs.Words.{complete_record, fit}
use Rattle.desk.proofs.ends_of.Goals as goal

pub lo-requires : goal.lo-requires
lo-requires c = (complete_record _ c.requires.1.one).least

pub hi-requires : goal.hi-requires
hi-requires c = (complete_record _ c.requires.1.one).least

pub returns : goal.returns
unfolding formula_of
returns c =
    let s = c.args.s in
    let u = (fit s c.args.b.now c.requires.1).sound in
    let e = c.ends.result in (
      subst (λ (z : ℤ). Exactly s z e.low) (held {w = w32} (known c.lo.ensures (fit_abs (omega (arith, u.low))))) c.ends.ensures.low,
      subst (λ (z : ℤ). Exactly s z e.high) (held {w = w32} (known c.hi.ensures (fit_abs (omega (arith, u.high))))) c.ends.ensures.high,
    )
