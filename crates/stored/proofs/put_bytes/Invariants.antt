-- The bytes so far stand from the place on.
use Rattle.whole.proofs.Basics.{◌≡◌, take}
use lib.Seq.{sets}
use Rattle.stored.proofs.put_bytes.Given as goal

abbrev pub invariant-loop-i : goal.invariant-loop-i
invariant-loop-i l = l.out ≡ sets l.initial.out l.at (take l.i l.bytes)
