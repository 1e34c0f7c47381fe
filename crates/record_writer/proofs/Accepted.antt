-- What it says that the record writer accepts a formula.
use Rattle.whole.proofs.Basics.{◌≡◌, refl, Bool, true, false, cond, ℕ, eqb, eqb-true, eqb-false}
use Rattle.word.specs.Words.{Scale}
use Rattle.formula.specs.declared.Formula.{Formula}
use Rattle.table.specs.declared.Class.TheVariants.{FormulaRecord}
use Rattle.table.specs.Table.{length_by}
use Rattle.layout.specs.Fields.{words_in}
use Rattle.putting.specs.Plain.{Handed, plain_by, row_by, plain}
use Rattle.putting.proofs.RecordBack.{Tidy}
use Rattle.refusal.specs.Guard.{guard, refused_number}
use Rattle.faults.specs.Faults.{count_fault, scale_fault}
use Rattle.faults.proofs.ScaleLaws.{good_scale}
use Rattle.records.specs.Records.{value_fault, only_formula}
use Rattle.records.proofs.FormulaLaws.{only_formula_lem}
use Rattle.record_writer.specs.Answers.{refused_by, Writing}
use Rattle.record_writer.specs.RecordWriter.{room_writing, plain_writing, record_writing}
use Rattle.record_writer.proofs.RecordWriting as writing

past : (fault : ℕ) (x : Writing) → refused_number (guard fault refused_by x) ≡ 0 → (fault ≡ 0) × (refused_number x ≡ 0)
past fault x e = at (eqb fault 0) refl e
  where
    at : (t : Bool) → eqb fault 0 ≡ t → refused_number (cond t x (refused_by fault)) ≡ 0 → (fault ≡ 0) × (refused_number x ≡ 0)
    at true q p = (eqb-true fault 0 q, p)
    at false q p = absurd (eqb-false fault 0 q p)

pub record Accepts (s : ℕ) (f : Formula) : Type 0 where
  pub class : (row_by f).class ≡ FormulaRecord
  pub scale : Scale s
  pub counts : count_fault (row_by f) (plain f).shape.p (plain f).shape.q ≡ 0
  pub values : value_fault s (row_by f) (plain f).shape (plain f).lo (plain f).hi (words_in (plain f)) ≡ 0

pub accepts : (s : ℕ) (f : Formula) (room : ℕ) → refused_number (record_writing s f room) ≡ 0 → Accepts s f
unfolding record_writing plain_writing
accepts s f room e =
    let r = row_by f in
    let g = plain f in
    let kind = past (only_formula r.class) (guard (scale_fault s) refused_by (plain_writing s r g room)) e in
    let places = past (scale_fault s) (plain_writing s r g room) kind.1 in
    let written = room_writing (length_by r g.shape.p g.shape.q) room in
    let fault = value_fault s r g.shape g.lo g.hi (words_in g) in
    let counts = past (count_fault r g.shape.p g.shape.q) (guard fault refused_by written) places.1 in
    record { class = only_formula_lem r.class kind.0; scale = good_scale s places.0; counts = counts.0; values = (past fault written counts.1).0 }

-- it can then be told from its bytes
pub tidy : (s : ℕ) (f : Formula) → Handed f → Accepts s f → Tidy (row_by f) (plain f)
unfolding plain_by
tidy s f h a = writing.tidy f a.class a.counts h
