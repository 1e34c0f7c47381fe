-- The fault of all the words is that of the words still to come.
use Rattle.std.proofs.Common.{◌≡◌, drop}
use Rattle.stored.specs.Words.{values}
use Rattle.faults.specs.Faults.{words_fault}
use Rattle.faults.proofs.parts.words_fault.Given as goal

abbrev pub invariant-loop-word : goal.invariant-loop-word
invariant-loop-word l = words_fault (values l.words) ≡ words_fault (values (drop l.word-index l.words))
