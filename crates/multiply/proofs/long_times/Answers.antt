-- `multiply::long_times` meets its contract: its upper and its lower word make up what `long_is` speaks of.
use Rattle.whole.proofs.Basics.{◌^◌, arith}
use native.Mathlib.Nat.{div-add-mod}
use Rattle.multiply.specs.Halves.{middle_and_low}
use Rattle.multiply.proofs.MultiplyLaws.{long_is}
use Rattle.multiply.proofs.long_times.Goals as goal

pub returns : goal.returns
returns c =
    let left = middle_and_low c.times-first.result c.times-second.result c.times-low.result in
    omega (arith, c.upper_word-upper.type_inv, div-add-mod left (2 ^ 32), long_is _ _ _ _ c.split-x.ensures.halves c.split-y.ensures.halves)
