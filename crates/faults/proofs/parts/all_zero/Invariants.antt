-- All the words are zero exactly where the words still to come are.
use Rattle.std.proofs.Common.{◌≡◌, drop}
use Rattle.stored.specs.Words.{values}
use Rattle.formula.specs.Blank.{all_zero}
use Rattle.faults.proofs.parts.all_zero.Given as goal

abbrev pub invariant-loop-word : goal.invariant-loop-word
invariant-loop-word l = all_zero (values l.words) ≡ all_zero (values (drop l.word-index l.words))
