-- A formula's record at the front of an array: it is as long as is said, and its judged bytes are the writer's answer.
use Rattle.whole.proofs.Basics.{◌≡◌, ◌∙◌, refl, sym, ap, List, ℕ, ◌≤◌, arith, length, take, eq-eqb}
use Rattle.std.specs.Prelude.{Some, None, Err}
use lib.ListN.{replicate}
use lib.Seq.{sets, length-sets, length-take-le}
use Rattle.formula.specs.declared.Formula.{Formula}
use Rattle.table.specs.declared.Class.TheVariants.{FormulaRecord}
use Rattle.table.specs.Table.{rows, first_row, row_of}
use Rattle.table.specs.Codes.{code_for}
use Rattle.table.proofs.CodeLaws.{class_of_row}
use Rattle.putting.specs.Plain.{Handed, row_by, plain}
use Rattle.refusal.specs.Guard.{guard, refusal}
use Rattle.faults.specs.Faults.{scale_fault}
use Rattle.faults.proofs.Chain.{halts}
use Rattle.records.specs.Records.{only_formula}
use Rattle.record_writer.specs.Answers.{refused_by, buffer_after, Writing}
use Rattle.record_writer.specs.RecordWriter.{plain_writing, record_writing, judged_writing, counts_fault, bytes_of, put_size, put_into}
use Rattle.record_writer.proofs.RecordFaults.{short_record}
use Rattle.record_writer.proofs.RecordWriting.{passes, tidy, judged, front_taken, put_none, put_some, at_code, at_no_code}

-- no code, no formula
pub no_code : (s : ℕ) (f : Formula) (room : ℕ) → code_for f.shape.kind ≡ 0 → Err (refusal 0 3) ≡ record_writing s f room
unfolding row_of first_row rows
no_code s f room z = at_no_code s f room 0 (sym z) refl refl

module _ (s : ℕ) (f : Formula) (code : ℕ) (e : code ≡ code_for f.shape.kind) (h : code ≡ 0 → ⊥) where
  class : (row_by f).class ≡ FormulaRecord
  class = class_of_row f.shape.kind (λ z. h (e ∙ z))

  pub class_code : (row_of code).class ≡ FormulaRecord
  class_code = rw e class

  formula : only_formula (row_of code).class ≡ 0
  formula = rw class_code refl

  pub past_code : {x : Writing} (room : ℕ) → x ≡ guard (scale_fault s) refused_by (plain_writing s (row_by f) (plain f) room) → x ≡ record_writing s f room
  past_code room g = at_code s f room code e formula g

  -- nothing put: a count's fault
  pub none_written : (room : ℕ) → 0 ≡ scale_fault s → None ≡ put_size f → Err (refusal 0 2) ≡ record_writing s f room
  unfolding plain_writing
  none_written room z n = past_code room (passes z (halts refused_by _ (sym (put_none f (sym n))) (λ q. omega (arith, q)) refl))

  module _ (n : ℕ) (array : List ℕ) (d : Handed f) (z : Some n ≡ put_size f) (p : array ≡ put_into f (replicate 120 0)) where
    counts : counts_fault f ≡ 0
    counts = (put_some f n (sym z)).0

    long : n ≡ length (bytes_of f)
    long = (put_some f n (sym z)).1

    short : (16 ≤ length (bytes_of f)) × (length (bytes_of f) ≤ 120)
    short = short_record (row_by f) (plain f) (tidy f class counts d)

    array_is : array ≡ sets (replicate 120 0) 0 (bytes_of f)
    array_is = rw (eq-eqb _ _ counts) at p

    first_bytes : take n array ≡ bytes_of f
    first_bytes = ap (take n) array_is ∙ front_taken (replicate 120 0) (bytes_of f) n long (omega (arith, short.1))

    pub within : n ≤ length array
    within = let room = ap length array_is ∙ length-sets (replicate 120 0) 0 (bytes_of f) in omega (arith, room, long, short.1)

    pub as_long : n ≡ length (take n array)
    as_long = sym (length-take-le _ _ within)

    pub least : 8 ≤ length (take n array)
    least = omega (arith, ap length first_bytes, short.0)

    pub most : length (take n array) ≤ 120
    most = omega (arith, ap length first_bytes, short.1)

    pub answer : {x : Writing} (room : ℕ) → 0 ≡ scale_fault s → x ≡ judged_writing s (take n array) room → x ≡ record_writing s f room
    answer room y w = past_code room (passes y (w ∙ ap (λ (b : List ℕ). judged_writing s b room) first_bytes ∙ judged f class counts s room d))

    pub buffer : (x : Writing) (out : List ℕ) {new : List ℕ} → new ≡ buffer_after x (take n array) out → new ≡ buffer_after x (bytes_of f) out
    buffer x out w = w ∙ ap (λ (b : List ℕ). buffer_after x b out) first_bytes
