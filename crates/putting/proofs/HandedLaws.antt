-- A formula that code hands over, without the fields that its kind has not, is ready for its record if its counts are in their ranges,
-- and can then be told from the record's bytes.
use Rattle.whole.proofs.Basics.{◌≡◌, ◌∙◌, sym, ap, Bool, true, false, cond, List, ℕ, ◌≤◌, ◌<◌, arith, eqb, length, length-append, ℤ, eq-eqb}
use lib.ListN.{length-replicate}
use Rattle.formula.specs.declared.Kind.{Kind}
use Rattle.formula.specs.declared.Formula.{Formula}
use Rattle.formula.specs.Formula.{word_count}
use Rattle.table.specs.declared.Class.TheVariants.{FormulaRecord}
use Rattle.table.specs.declared.Field.{Field}
use Rattle.table.specs.Table.{row_of, pieces_by, Within}
use Rattle.table.specs.Codes.{code_for}
use Rattle.table.proofs.Rule.{ruled, few}
use Rattle.table.proofs.CodeLaws.{kind_of_row, code_of_row, code_fits}
use Rattle.table.proofs.OrderLaws.{ordered, told}
use Rattle.layout.specs.Fields.{padded, words_by}
use Rattle.putting.specs.Plain.{Handed, row_by, kept, plain_shape, plain_by, plain}
use Rattle.putting.specs.Bytes.{Ready}
use Rattle.putting.proofs.Fitting.{each_first, each_padded}
use Rattle.putting.proofs.PlainLaws.{plain_count, plain_words}
use Rattle.putting.proofs.RecordBack.{Tidy}

array_long : (l : List ℤ) → 32 ≤ length (padded l)
unfolding padded
array_long l = simp (length-append, length-replicate) (omega arith)

module _ (f : Formula) (c : (row_by f).class ≡ FormulaRecord)
    (p : Within (row_by f).p (plain_shape (row_by f) f.shape).p) (q : Within (row_by f).q (plain_shape (row_by f) f.shape).q) where
  few_words : plain_count (row_by f) f ≤ 32
  unfolding plain_shape
  few_words =
      let r = row_by f in
      let h = plain_shape r f.shape in
      let u = ruled (code_for f.shape.kind) in
      let many : plain_count r f ≡ pieces_by r h.p h.q = ap (λ (k : Kind). word_count k h.p h.q) (sym (kind_of_row f.shape.kind)) ∙ u.many c h.p h.q in
      omega (arith, many, few r h.p h.q u p.1 q.1)

  pub ready : Ready (row_by f) (plain f)
  unfolding plain_by plain_shape
  ready =
      let k = code_for f.shape.kind in
      record {
        ruled = ruled k;
        ordered = ordered k c;
        class = c;
        kind = sym (kind_of_row f.shape.kind);
        p = p;
        q = q;
        long = omega (arith, few_words, array_long (words_by (plain_shape (row_by f) f.shape) f.words));
      }

  -- a field that the kind has not is 0, and what is kept is no larger
  none_kept : (g : Field) (n : ℕ) → g.most ≡ 0 → kept g n ≡ 0
  unfolding kept
  none_kept g n z = rw (eq-eqb g.most 0 z)

  kept_below : (g : Field) (n : ℕ) → n < 65536 → kept g n < 65536
  unfolding kept
  kept_below g n h = at (eqb g.most 0)
    where
      at : (t : Bool) → cond t 0 n < 65536
      at true = omega arith
      at false = h

  pub tidy : Handed f → Tidy (row_by f) (plain f)
  unfolding plain_by plain_shape
  tidy h =
      let k = code_for f.shape.kind in
      let r = row_by f in
      record {
        ready = ready;
        told = told k;
        code = (rw (code_of_row f.shape.kind) (code_fits f.shape.kind), ap row_of (code_of_row f.shape.kind));
        number = h.number;
        lo = h.lo;
        hi = h.hi;
        mode = (λ z. none_kept r.mode f.shape.mode ((told k).mode z), kept_below r.mode f.shape.mode h.mode);
        each = each_padded (words_by (plain_shape r f.shape) f.words) (each_first (plain_count r f) f.words h.each);
        rest = ap padded (plain_words r f (omega (arith, few_words, h.long)));
      }
