-- The depth that is left falls by one.
use Rattle.fraction.proofs.+outward.Given as goal

abbrev pub decreases-outward : goal.decreases-outward
decreases-outward l = l.j
