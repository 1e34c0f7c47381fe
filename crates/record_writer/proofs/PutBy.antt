-- A formula's record by a row: what it comes to that its counts have a fault, and that they have none.
use Rattle.whole.proofs.Basics.{◌≡◌, ◌∙◌, refl, sym, ap, List, ℕ, true, false, length, eq-eqb, ne_eqb}
use Rattle.std.specs.Prelude.{⊤, Result, Ok, Err, Some, None}
use Rattle.std.specs.Result.{is_err}
use lib.Seq.{sets}
use Rattle.formula.specs.declared.Formula.{Formula}
use Rattle.formula.specs.declared.Shape.{Shape}
use Rattle.table.specs.declared.Class.TheVariants.{FormulaRecord}
use Rattle.table.specs.declared.Row.{Row}
use Rattle.table.specs.Table.{length_by}
use Rattle.putting.specs.Plain.{plain_shape, plain_by, row_by, plain}
use Rattle.putting.specs.Bytes.{Ready, record_bytes}
use Rattle.putting.proofs.RecordLaws.{length_record}
use Rattle.refusal.specs.Guard.{numbered}
use Rattle.refusal.specs.declared.Fault.{Fault}
use Rattle.faults.specs.Faults.{count_fault}
use Rattle.record_writer.specs.RecordWriter.{counts_fault, bytes_of, put_size, put_into}
use Rattle.record_writer.proofs.RecordWriting.{fault_some, ready}

module _ (f : Formula) (r : Row) (h : Shape) (found : Result ⊤ Fault) (q : r ≡ row_by f) (p : h ≡ plain_shape r f.shape) (k : numbered found ≡ count_fault r h.p h.q) where
  counts : numbered found ≡ counts_fault f
  unfolding plain_by
  counts = rw (p, q) at k

  two : is_err found ≡ true → counts_fault f ≡ 0 → ⊥
  two e z = at found e (counts ∙ z)
    where
      at : (x : Result ⊤ Fault) → is_err x ≡ true → numbered x ≡ 0 → ⊥
      at (Ok none) t n = cc
      at (Err fault) t n = fault_some fault n

  none : is_err found ≡ false → counts_fault f ≡ 0
  none e = sym counts ∙ at found e
    where
      at : (x : Result ⊤ Fault) → is_err x ≡ false → numbered x ≡ 0
      at (Ok nothing) t = refl
      at (Err fault) t = absurd (cc)

  pub no_size : is_err found ≡ true → None ≡ put_size f
  no_size e = rw (ne_eqb _ _ (two e)) refl

  pub none_put : is_err found ≡ true → (l : List ℕ) → l ≡ put_into f l
  none_put e l = rw (ne_eqb _ _ (two e)) refl

  module _ (c : (row_by f).class ≡ FormulaRecord) (e : is_err found ≡ false) where
    pub row_ready : Ready r (plain_by r f)
    row_ready = rw q (ready f c (none e))

    pub size_put : (n : ℕ) → n ≡ length_by r h.p h.q → Some n ≡ put_size f
    unfolding plain_by
    size_put n l =
        let long : length (bytes_of f) ≡ n = length_record (row_by f) (plain f) (ready f c (none e)) ∙ sym (rw (p, q) at l) in
        rw (eq-eqb _ _ (none e)) (ap Some (sym long))

    pub bytes_put : (l out : List ℕ) → out ≡ sets l 0 (record_bytes r (plain_by r f)) → out ≡ put_into f l
    bytes_put l out b = rw (eq-eqb _ _ (none e)) (rw q at b)
