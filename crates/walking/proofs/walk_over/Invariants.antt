-- `walking::walk_over`: the whole answer is that of the walk from here on, and each record brings the walk nearer to the end.
use Rattle.std.proofs.Common.{◌+◌, ◌-◌, length}
use Rattle.walking.proofs.Going.{Going}
use Rattle.walking.proofs.walk_over.Given as goal

abbrev pub invariant-loop-w : goal.invariant-loop-w
invariant-loop-w l = Going l.s l.bytes l.from l.fn.asked l.w

abbrev pub decreases-loop-w : goal.decreases-loop-w
decreases-loop-w l = l.from + length l.bytes - l.w.at
