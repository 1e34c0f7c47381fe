-- A formula's faults are those of its record's bytes, because it is read again from them.
use Rattle.whole.proofs.Basics.{◌≡◌, ◌∙◌, refl, sym, ap, ℕ, ◌≤◌, arith, length, eq-eqb, le-ltb}
use Rattle.formula.specs.declared.Formula.{Formula}
use Rattle.table.specs.declared.Row.{Row}
use Rattle.table.proofs.Rule.{short}
use Rattle.layout.specs.Fields.{row_for, formula_number, words_in}
use Rattle.putting.specs.Bytes.{record_bytes}
use Rattle.putting.proofs.RecordLaws.{length_record}
use Rattle.putting.proofs.RecordBack.{Tidy, shape_again, lo_again, hi_again, words_again, size_again, row_back}
use Rattle.refusal.specs.Guard.{or_else}
use Rattle.faults.specs.Faults.{count_fault, size_fault, length_fault, order_fault}
use Rattle.faults.proofs.Chain.{pass}
use Rattle.records.specs.Records.{value_fault, inner_fault, formula_fault, only_formula}
use Rattle.records.specs.Sheets.{FormulaBytes}

module _ (r : Row) (f : Formula) (d : Tidy r f) where
  pub short_record : (16 ≤ length (record_bytes r f)) × (length (record_bytes r f) ≤ 120)
  short_record =
      let l = length_record r f d.ready in
      let low : 16 ≤ r.head = rw d.ready.class at d.ready.ruled.least in
      (omega (arith, l, low), omega (arith, l, short r f.shape.p f.shape.q d.ready.ruled d.ready.p.1 d.ready.q.1))

  values_same : (s : ℕ) → inner_fault s r (record_bytes r f) ≡ value_fault s r f.shape f.lo f.hi (words_in f)
  values_same s = λ i. value_fault s r (shape_again r f d i) (lo_again r f d i) (hi_again r f d i) (words_again r f d i)

  module _ (c : count_fault r f.shape.p f.shape.q ≡ 0) where
    exact : length_fault r (record_bytes r f) ≡ 0
    unfolding length_fault size_fault
    exact =
        let l = length_record r f d.ready in
        rw (shape_again r f d, le-ltb (length (record_bytes r f)) r.head (omega (arith, l)), eq-eqb _ _ c, eq-eqb _ _ (sym l)) refl

    -- the reader's own check, of the first of one formula
    pub check_same : (s : ℕ) → or_else (only_formula (row_for (record_bytes r f)).class) (formula_fault s (row_for (record_bytes r f)) (record_bytes r f) 0 1 0) ≡ value_fault s r f.shape f.lo f.hi (words_in f)
    unfolding formula_fault order_fault
    check_same s =
        let b = record_bytes r f in
        let first : order_fault 0 1 0 (formula_number b) ≡ 0 = rw (le-ltb (formula_number b) 0 (omega arith)) in
        ap (λ (w : Row). or_else (only_formula w.class) (formula_fault s w b 0 1 0)) (row_back r f d)
        ∙ sym (pass refl (ap only_formula d.ready.class) (pass refl exact (pass refl first (sym (values_same s)))))

    pub bytes_back : (s : ℕ) → value_fault s r f.shape f.lo f.hi (words_in f) ≡ 0 → FormulaBytes s (record_bytes r f)
    bytes_back s v =
        record {
          one =
              record {
                least = omega (arith, short_record.0);
                most = short_record.1;
                says = size_again r f d;
                class = rw (row_back r f d) d.ready.class;
                exact = rw (row_back r f d) exact;
              };
          inner = rw (row_back r f d) (values_same s ∙ v);
        }
