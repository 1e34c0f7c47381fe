-- The record writer's answers, a link at a time.
use Rattle.whole.proofs.Basics.{◌≡◌, ◌∙◌, refl, sym, ap, ap₂, Bool, true, false, cond, ◌⊎◌, inl, inr, List, [], ◌∷◌, ℕ, ◌≤◌, arith, eqb, ltb, length, take, eq-eqb}
use lib.Seq.{sets, take-append_seam}
use Rattle.stored.proofs.StoreLaws.{sets_front}
use Rattle.formula.specs.declared.Formula.{Formula}
use Rattle.table.specs.declared.Class.TheVariants.{FormulaRecord}
use Rattle.table.specs.declared.Row.{Row}
use Rattle.table.specs.Table.{row_of, length_by}
use Rattle.table.specs.Codes.{code_for}
use Rattle.layout.specs.Fields.{words_in}
use Rattle.putting.specs.Plain.{Handed, plain_by, row_by, plain}
use Rattle.putting.specs.Bytes.{Ready}
use Rattle.putting.proofs.RecordLaws.{length_record}
use Rattle.putting.proofs.RecordBack.{Tidy}
use Rattle.putting.proofs.HandedLaws as handed
use Rattle.refusal.specs.Guard.{number_of, refusal, guard, refused_place}
use Rattle.refusal.specs.declared.Fault.{Fault}
use Rattle.faults.specs.Faults.{count_fault, scale_fault}
use Rattle.faults.proofs.Chain.{halts, goes, err_stops}
use Rattle.faults.proofs.Lengths.{counted}
use Rattle.faults.proofs.FaultSets.{count_set}
use Rattle.faults.specs.Refusals.{OneOf}
use Rattle.records.specs.Records.{value_fault, only_formula}
use Rattle.record_writer.specs.Answers.{refused_by, Writing}
use Rattle.record_writer.specs.RecordWriter.{room_writing, plain_writing, record_writing, judged_writing, bytes_of, counts_fault, put_size}
use Rattle.record_writer.proofs.RecordFaults.{check_same}
use Rattle.std.specs.Prelude.{Ok, Err, Some, None}

-- ---- a check's answer in front of a writer's: it stops at a fault, by its number, and goes past none
pub fault_some : (f : Fault) → number_of f ≡ 0 → ⊥
fault_some f z = let o : number_of f ≡ 1 = err_stops f 1 z in omega (arith, o, z)

pub refuses : (f : Fault) {n : ℕ} (x : Writing) → number_of f ≡ n → Err (refusal 0 (number_of f)) ≡ guard n refused_by x
refuses f x e = halts refused_by x e (fault_some f) refl

pub passes : {n : ℕ} {x y : Writing} → 0 ≡ n → x ≡ y → x ≡ guard n refused_by y
passes e = goes refused_by e refl

-- ---- a record's bytes at the front of an array are its first ones
pub front_taken : (l a : List ℕ) (n : ℕ) → n ≡ length a → length a ≤ length l → take n (sets l 0 a) ≡ a
front_taken l a n e h = rw (e, sets_front l a h) (take-append_seam a _)

-- ---- past the counts: the record can be put together, and its bytes are judged as the formula is
module _ (f : Formula) (c : (row_by f).class ≡ FormulaRecord) (n : counts_fault f ≡ 0) where
  pub ready : Ready (row_by f) (plain f)
  unfolding plain_by
  ready = let w = counted (row_by f) _ _ n in handed.ready f c w.0 w.1

  pub tidy : Handed f → Tidy (row_by f) (plain f)
  unfolding plain_by
  tidy h = let w = counted (row_by f) _ _ n in handed.tidy f c w.0 w.1 h

  pub judged : (s room : ℕ) → Handed f → judged_writing s (bytes_of f) room ≡ plain_writing s (row_by f) (plain f) room
  unfolding judged_writing plain_writing plain_by
  judged s room h =
      let d = tidy h in
      ap₂ (λ (fault size : ℕ). guard fault refused_by (room_writing size room)) (check_same (row_by f) (plain f) d n s) (length_record (row_by f) (plain f) d.ready)
      ∙ sym (ap (λ (fault : ℕ). guard fault refused_by (guard (value_fault s (row_by f) (plain f).shape f.lo f.hi (words_in (plain f))) refused_by (room_writing (length_by (row_by f) (plain f).shape.p (plain f).shape.q) room))) n)

-- ---- whether anything was put together tells the counts' fault
counts_two : (f : Formula) → (counts_fault f ≡ 0) ⊎ (counts_fault f ≡ 2)
counts_two f = at (count_set (2 ∷ []) (inr (inl refl)) (row_by f) (plain f).shape.p (plain f).shape.q)
  where
    at : {n : ℕ} → OneOf (0 ∷ 2 ∷ []) n → (n ≡ 0) ⊎ (n ≡ 2)
    at (inl e) = inl e
    at (inr (inl e)) = inr e
    at (inr (inr e)) = absurd e

pub put_none : (f : Formula) → put_size f ≡ None → counts_fault f ≡ 2
put_none f z = at (counts_two f)
  where
    at : (counts_fault f ≡ 0) ⊎ (counts_fault f ≡ 2) → counts_fault f ≡ 2
    at (inl e) = absurd (cc (rw (eq-eqb _ _ e) at z))
    at (inr e) = e

pub put_some : (f : Formula) (n : ℕ) → put_size f ≡ Some n → (counts_fault f ≡ 0) × (n ≡ length (bytes_of f))
put_some f n z = at (counts_two f)
  where
    at : (counts_fault f ≡ 0) ⊎ (counts_fault f ≡ 2) → (counts_fault f ≡ 0) × (n ≡ length (bytes_of f))
    at (inl e) = let z' : Some (length (bytes_of f)) ≡ Some n = rw (eq-eqb _ _ e) at z in (e, cc)
    at (inr e) = let z' : None ≡ Some n = rw e at z in absurd (cc)

-- ---- by the code of the formula's kind: a formula's, or none that a formula has
module _ (s : ℕ) (f : Formula) (room n : ℕ) (e : n ≡ code_for f.shape.kind) where
  pub at_code : {x : Writing} → only_formula (row_of n).class ≡ 0 → x ≡ guard (scale_fault s) refused_by (plain_writing s (row_by f) (plain f) room) → x ≡ record_writing s f room
  unfolding record_writing
  at_code z g = goes refused_by (ap (λ (k : ℕ). only_formula (row_of k).class) e) z g

  pub at_no_code : {x : Writing} → only_formula (row_of n).class ≡ 3 → x ≡ refused_by 3 → x ≡ record_writing s f room
  unfolding record_writing
  at_no_code z g = halts refused_by _ (sym z ∙ ap (λ (k : ℕ). only_formula (row_of k).class) e) (λ q. omega arith) g

-- ---- all at place 0
at_zero : (fault : ℕ) (x : Writing) → refused_place x ≡ 0 → refused_place (guard fault refused_by x) ≡ 0
at_zero fault x e = by (eqb fault 0)
  where
    by : (t : Bool) → refused_place (cond t x (refused_by fault)) ≡ 0
    by true = e
    by false = refl

room_place : (n room : ℕ) → refused_place (room_writing n room) ≡ 0
unfolding room_writing
room_place n room = by (ltb room n)
  where
    by : (t : Bool) → refused_place (cond t (refused_by 12) (Ok n)) ≡ 0
    by true = refl
    by false = refl

plain_place : (s : ℕ) (r : Row) (f : Formula) (room : ℕ) → refused_place (plain_writing s r f room) ≡ 0
unfolding plain_writing
plain_place s r f room =
    let x = room_writing (length_by r f.shape.p f.shape.q) room in
    let v = value_fault s r f.shape f.lo f.hi (words_in f) in
    at_zero (count_fault r f.shape.p f.shape.q) (guard v refused_by x) (at_zero v x (room_place _ room))

pub record_place : (s : ℕ) (f : Formula) (room : ℕ) → refused_place (record_writing s f room) ≡ 0
unfolding record_writing
record_place s f room =
    let x = plain_writing s (row_by f) (plain f) room in
    at_zero (only_formula (row_by f).class) (guard (scale_fault s) refused_by x) (at_zero (scale_fault s) x (plain_place s (row_by f) (plain f) room))
