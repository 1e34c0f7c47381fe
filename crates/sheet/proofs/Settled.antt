-- Promise: each public function of the reader asks nothing of its caller, and settles its result: two results that satisfy its contract are equal.
use Rattle.whole.proofs.Basics.{◌∙◌, sym}
use Rattle.whole.proofs.Settled.{AsksNothing, Settled}
use Rattle.sheet.proofs.reader.formula_count.Kinds as count-kinds
use Rattle.sheet.proofs.reader.formula_count.Reads as count-reads
use Rattle.sheet.proofs.reader.formula_place.Kinds as place-kinds
use Rattle.sheet.proofs.reader.formula_place.Reads as place-reads
use Rattle.sheet.proofs.reader.read_formula.Kinds as formula-kinds
use Rattle.sheet.proofs.reader.read_formula.Reads as formula-reads

pub formula_count_asks_nothing : AsksNothing count-kinds.ps count-reads.Asked
formula_count_asks_nothing κs a = tt

pub formula_count_settled : Settled count-kinds.ps count-kinds.r count-reads.Learnt
formula_count_settled κs a x y s t p q = p ∙ sym q

pub formula_place_asks_nothing : AsksNothing place-kinds.ps place-reads.Asked
formula_place_asks_nothing κs a = tt

pub formula_place_settled : Settled place-kinds.ps place-kinds.r place-reads.Learnt
formula_place_settled κs a x y s t p q = p ∙ sym q

pub read_formula_asks_nothing : AsksNothing formula-kinds.ps formula-reads.Asked
read_formula_asks_nothing κs a = tt

pub read_formula_settled : Settled formula-kinds.ps formula-kinds.r formula-reads.Learnt
read_formula_settled κs a x y s t p q = p ∙ sym q
