-- Promise: sine and cosine, and what they ask of an angle, ask nothing of their caller and settle their result: two results that satisfy a contract are equal.
use Rattle.whole.proofs.Basics.{◌∙◌, sym}
use Rattle.whole.proofs.Settled.{AsksNothing, Settled}
use Rattle.turn.proofs.angle.quarter.Kinds as quarter-kinds
use Rattle.turn.proofs.angle.quarter.Reads as quarter-reads
use Rattle.turn.proofs.angle.folded.Kinds as folded-kinds
use Rattle.turn.proofs.angle.folded.Reads as folded-reads
use Rattle.turn.proofs.sine.Kinds as sine-kinds
use Rattle.turn.proofs.sine.Reads as sine-reads
use Rattle.turn.proofs.cosine.Kinds as cosine-kinds
use Rattle.turn.proofs.cosine.Reads as cosine-reads

pub quarter_asks_nothing : AsksNothing quarter-kinds.ps quarter-reads.Asked
quarter_asks_nothing κs a = tt

pub quarter_settled : Settled quarter-kinds.ps quarter-kinds.r quarter-reads.Learnt
quarter_settled κs a x y s t p q = p ∙ sym q

pub folded_asks_nothing : AsksNothing folded-kinds.ps folded-reads.Asked
folded_asks_nothing κs a = tt

pub folded_settled : Settled folded-kinds.ps folded-kinds.r folded-reads.Learnt
folded_settled κs a x y s t p q = p ∙ sym q

pub sine_asks_nothing : AsksNothing sine-kinds.ps sine-reads.Asked
sine_asks_nothing κs a = tt

pub sine_settled : Settled sine-kinds.ps sine-kinds.r sine-reads.Learnt
sine_settled κs a x y s t p q = p ∙ sym q

pub cosine_asks_nothing : AsksNothing cosine-kinds.ps cosine-reads.Asked
cosine_asks_nothing κs a = tt

pub cosine_settled : Settled cosine-kinds.ps cosine-kinds.r cosine-reads.Learnt
cosine_settled κs a x y s t p q = p ∙ sym q
