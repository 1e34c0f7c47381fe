-- Promise: what the record writer has written is not blank; and a blank formula of which nothing else is wrong is refused by 14, whatever the room.
use Rattle.whole.proofs.Basics.{◌≡◌, refl, sym, ap, false, ℕ, arith}
use Rattle.formula.specs.Blank.{blank_of}
use Rattle.formula.specs.declared.Formula.{Formula}
use Rattle.layout.specs.Fields.{words_in}
use Rattle.putting.specs.Plain.{row_by, plain}
use Rattle.faults.proofs.Chain.{halts, goes}
use Rattle.faults.proofs.ScaleLaws.{no_scale_fault}
use Rattle.records.specs.Records.{only_formula}
use Rattle.records.proofs.Soundness.{not_blank, fourteen}
use Rattle.record_writer.specs.Answers.{refused_by}
use Rattle.record_writer.specs.RecordWriter.{plain_writing, record_writing, OnlyBlank}
use Rattle.record_writer.proofs.Accepted.{accepts}
use Rattle.refusal.specs.Guard.{refused_number}

pub written_not_blank : (s : ℕ) (f : Formula) (room : ℕ) → refused_number (record_writing s f room) ≡ 0 → blank_of (plain f).shape (words_in (plain f)) ≡ false
written_not_blank s f room e = not_blank s (row_by f) (plain f).shape (plain f).lo (plain f).hi (words_in (plain f)) (accepts s f room e).values

pub blank_fourteen : (s : ℕ) (f : Formula) (room : ℕ) → OnlyBlank s f → record_writing s f room ≡ refused_by 14
unfolding record_writing plain_writing
blank_fourteen s f room b =
    sym
    (goes refused_by refl (ap only_formula b.class) (goes refused_by refl (no_scale_fault s b.scale) (goes refused_by refl b.counts
    (halts refused_by _ (sym (fourteen s (row_by f) (plain f).shape (plain f).lo (plain f).hi (words_in (plain f)) b.own b.words b.blank)) (λ z. omega (arith, z)) refl))))
