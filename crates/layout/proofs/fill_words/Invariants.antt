-- The array holds the values of the words so far, and zeros behind them.
use Rattle.whole.proofs.Basics.{◌≡◌, take}
use Rattle.stored.specs.Words.{values}
use Rattle.layout.specs.Fields.{padded}
use Rattle.layout.proofs.fill_words.Given as goal

abbrev pub invariant-loop-i : goal.invariant-loop-i
invariant-loop-i l = l.out ≡ padded (values (take l.i l.words))
