-- The words so far stand from the place on.
use Rattle.whole.proofs.Basics.{◌≡◌, take}
use lib.Seq.{sets}
use Rattle.putting.specs.Bytes.{word_bytes}
use Rattle.putting.proofs.put_words.Given as goal

abbrev pub invariant-loop-i : goal.invariant-loop-i
invariant-loop-i l = l.out ≡ sets l.initial.out l.at (word_bytes (take l.i l.words))
