-- Promise: the record writer writes, or refuses by 3, 2, 6, 14, 7, 8 or 12; and it has no refusal exactly when it wrote. Each check gives one of these or none, and so do checks one behind the other.
use Rattle.whole.proofs.Basics.{◌≡◌, refl, Bool, true, false, cond, not, ◌⊎◌, inl, inr, List, ◌∷◌, ℕ, T, eqb, ltb, eqb-false}
use Rattle.formula.specs.declared.Formula.{Formula}
use Rattle.table.specs.declared.Class.{Class}
use Rattle.table.specs.declared.Class.TheVariants.{StartRecord, FormulaRecord, EndRecord, Unknown}
use Rattle.table.specs.declared.Row.{Row}
use Rattle.table.specs.Table.{length_by}
use Rattle.layout.specs.Fields.{words_in}
use Rattle.putting.specs.Plain.{row_by, plain}
use Rattle.refusal.specs.Guard.{guard, refused_number}
use Rattle.faults.specs.Faults.{count_fault, scale_fault}
use Rattle.records.specs.Records.{value_fault, only_formula}
use Rattle.faults.specs.Refusals.{OneOf}
use Rattle.faults.proofs.FaultSets.{among, one_of, not_zero, Fault, count_set, scale-set}
use Rattle.records.proofs.ValueSets.{value_set}
use Rattle.record_writer.specs.Answers.{refused_by, Writing}
use Rattle.record_writer.specs.RecordWriter.{room_writing, plain_writing, record_writing, record_writer_refusals}
use Rattle.std.specs.Prelude.{Ok}

-- it wrote, or refused by one of a set
abbrev pub WrittenOr : List ℕ → Writing → Type 0
WrittenOr l w = ((n : ℕ) × (w ≡ Ok n)) ⊎ OneOf l (refused_number w)

-- of a set without 0: there is no refusal exactly when it wrote
pub wrote : (l : List ℕ) (w : Writing) → T (not (among l 0)) → WrittenOr l w → refused_number w ≡ 0 → (n : ℕ) × (w ≡ Ok n)
wrote l w t (inl h) z = h
wrote l w t (inr h) z = absurd (not_zero l (refused_number w) t h z)

-- a check in front of another keeps to the set
pub guarded : (l : List ℕ) (fault : ℕ) (w : Writing) → Fault l fault → WrittenOr l w → WrittenOr l (guard fault refused_by w)
guarded l fault w h k = at (eqb fault 0) refl h
  where
    at : (b : Bool) → eqb fault 0 ≡ b → Fault l fault → WrittenOr l (cond b w (refused_by fault))
    at true e h = k
    at false e (inl z) = absurd (eqb-false fault 0 e z)
    at false e (inr h) = inr h

-- room, or 12
pub in_room : (l : List ℕ) → OneOf l 12 → (t : Bool) (n : ℕ) → WrittenOr l (cond t (refused_by 12) (Ok n))
in_room l h true n = inr h
in_room l h false n = inl (n, refl)

is : (n : ℕ) → T (among (0 ∷ record_writer_refusals) n) → Fault record_writer_refusals n
is n t = one_of (0 ∷ record_writer_refusals) n t

kind : (k : Class) → Fault record_writer_refusals (only_formula k)
kind StartRecord = is 3 tt
kind FormulaRecord = is 0 tt
kind EndRecord = is 3 tt
kind Unknown = is 3 tt

of_formula : (s : ℕ) (r : Row) (f : Formula) (room : ℕ) → WrittenOr record_writer_refusals (plain_writing s r f room)
unfolding plain_writing room_writing
of_formula s r f room =
    let h = f.shape in
    let n = length_by r h.p h.q in
    guarded record_writer_refusals (count_fault r h.p h.q) _ (count_set record_writer_refusals (is 2 tt) r h.p h.q)
    (guarded record_writer_refusals (value_fault s r h f.lo f.hi (words_in f)) _ (value_set record_writer_refusals (is 6 tt) (is 14 tt) (is 7 tt) (is 8 tt) s r h f.lo f.hi (words_in f))
    (in_room record_writer_refusals (one_of record_writer_refusals 12 tt) (ltb room n) n))

pub record_refusals_lem : (s : ℕ) (f : Formula) (room : ℕ) → ((n : ℕ) × (record_writing s f room ≡ Ok n)) ⊎ OneOf record_writer_refusals (refused_number (record_writing s f room))
unfolding record_writing
record_refusals_lem s f room =
    guarded record_writer_refusals (only_formula (row_by f).class) _ (kind (row_by f).class)
    (guarded record_writer_refusals (scale_fault s) _ (scale-set record_writer_refusals (is 6 tt) s) (of_formula s (row_by f) (plain f) room))

pub record_wrote : (s : ℕ) (f : Formula) (room : ℕ) → refused_number (record_writing s f room) ≡ 0 → (n : ℕ) × (record_writing s f room ≡ Ok n)
record_wrote s f room z = wrote record_writer_refusals (record_writing s f room) tt (record_refusals_lem s f room) z
