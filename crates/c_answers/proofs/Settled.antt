-- Promise: each conversion to C's structs asks nothing of its caller, and settles its result: two results that satisfy its contract are equal.
use Rattle.whole.proofs.Basics.{◌∙◌, sym}
use Rattle.whole.proofs.Settled.{AsksNothing, Settled}
use Rattle.c_answers.proofs.conversions.CountedFormulasFromResultU16Refusal.from.Kinds as counted-kinds
use Rattle.c_answers.proofs.conversions.CountedFormulasFromResultU16Refusal.from.Reads as counted-reads
use Rattle.c_answers.proofs.conversions.FoundFieldsFromResultFormulaRefusal.from.Kinds as found-kinds
use Rattle.c_answers.proofs.conversions.FoundFieldsFromResultFormulaRefusal.from.Reads as found-reads
use Rattle.c_answers.proofs.conversions.WorkedWordFromResultWorkedRefusal.from.Kinds as worked-kinds
use Rattle.c_answers.proofs.conversions.WorkedWordFromResultWorkedRefusal.from.Reads as worked-reads
use Rattle.c_answers.proofs.conversions.ShownValueFromResultShownRefusal.from.Kinds as shown-kinds
use Rattle.c_answers.proofs.conversions.ShownValueFromResultShownRefusal.from.Reads as shown-reads
use Rattle.c_answers.proofs.conversions.IntervalEndsFromResultEndsRefusal.from.Kinds as spanned-kinds
use Rattle.c_answers.proofs.conversions.IntervalEndsFromResultEndsRefusal.from.Reads as spanned-reads
use Rattle.c_answers.proofs.conversions.WrittenLengthFromResultUsizeRefusal.from.Kinds as written-kinds
use Rattle.c_answers.proofs.conversions.WrittenLengthFromResultUsizeRefusal.from.Reads as written-reads
use Rattle.c_answers.proofs.fields.FieldsFromFormula.from.Kinds as fields-of-kinds
use Rattle.c_answers.proofs.fields.FieldsFromFormula.from.Reads as fields-of-reads
use Rattle.c_answers.proofs.answers.Fields.none.Kinds as no-fields-kinds
use Rattle.c_answers.proofs.answers.Fields.none.Reads as no-fields-reads
use Rattle.c_answers.proofs.fields.FormulaFromFields.from.Kinds as formula-by-kinds
use Rattle.c_answers.proofs.fields.FormulaFromFields.from.Reads as formula-by-reads

pub counted_asks_nothing : AsksNothing counted-kinds.ps counted-reads.Asked
counted_asks_nothing κs a = tt

pub counted_settled : Settled counted-kinds.ps counted-kinds.r counted-reads.Learnt
counted_settled κs a x y s t p q = p ∙ sym q

pub found_asks_nothing : AsksNothing found-kinds.ps found-reads.Asked
found_asks_nothing κs a = tt

pub found_settled : Settled found-kinds.ps found-kinds.r found-reads.Learnt
found_settled κs a x y s t p q = p ∙ sym q

pub worked_asks_nothing : AsksNothing worked-kinds.ps worked-reads.Asked
worked_asks_nothing κs a = tt

pub worked_settled : Settled worked-kinds.ps worked-kinds.r worked-reads.Learnt
worked_settled κs a x y s t p q = p ∙ sym q

pub shown_asks_nothing : AsksNothing shown-kinds.ps shown-reads.Asked
shown_asks_nothing κs a = tt

pub shown_settled : Settled shown-kinds.ps shown-kinds.r shown-reads.Learnt
shown_settled κs a x y s t p q = p ∙ sym q

pub spanned_asks_nothing : AsksNothing spanned-kinds.ps spanned-reads.Asked
spanned_asks_nothing κs a = tt

pub spanned_settled : Settled spanned-kinds.ps spanned-kinds.r spanned-reads.Learnt
spanned_settled κs a x y s t p q = p ∙ sym q

pub written_asks_nothing : AsksNothing written-kinds.ps written-reads.Asked
written_asks_nothing κs a = tt

pub written_settled : Settled written-kinds.ps written-kinds.r written-reads.Learnt
written_settled κs a x y s t p q = p ∙ sym q

pub fields_of_asks_nothing : AsksNothing fields-of-kinds.ps fields-of-reads.Asked
fields_of_asks_nothing κs a = tt

pub fields_of_settled : Settled fields-of-kinds.ps fields-of-kinds.r fields-of-reads.Learnt
fields_of_settled κs a x y s t p q = p ∙ sym q

pub no_fields_asks_nothing : AsksNothing no-fields-kinds.ps no-fields-reads.Asked
no_fields_asks_nothing κs a = tt

pub no_fields_settled : Settled no-fields-kinds.ps no-fields-kinds.r no-fields-reads.Learnt
no_fields_settled κs a x y s t p q = p ∙ sym q

pub formula_by_asks_nothing : AsksNothing formula-by-kinds.ps formula-by-reads.Asked
formula_by_asks_nothing κs a = tt

pub formula_by_settled : Settled formula-by-kinds.ps formula-by-kinds.r formula-by-reads.Learnt
formula_by_settled κs a x y s t p q = p ∙ sym q
