-- Promise: evaluation asks nothing of its caller, and settles its result: two results that satisfy its contract are equal.
use Rattle.whole.proofs.Basics.{◌∙◌, sym}
use Rattle.whole.proofs.Settled.{AsksNothing, Settled}
use Rattle.board.proofs.evaluate.Kinds as evaluate-kinds
use Rattle.board.proofs.evaluate.Reads as evaluate-reads

pub evaluate_asks_nothing : AsksNothing evaluate-kinds.ps evaluate-reads.Asked
evaluate_asks_nothing κs a = tt

pub evaluate_settled : Settled evaluate-kinds.ps evaluate-kinds.r evaluate-reads.Learnt
evaluate_settled κs a x y s t p q = p ∙ sym q
