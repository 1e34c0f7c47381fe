-- A formula's record is put into a buffer in three parts, by the plain shape and the formula's own words.
use Rattle.whole.proofs.Basics.{◌≡◌, refl, sym, ap, List, ◌++◌, ℕ, ◌+◌, ◌*◌, ◌≤◌, arith, length, take, length-append}
use lib.Seq.{sets}
use Rattle.stored.proofs.StoreLaws.{next}
use Rattle.formula.specs.declared.Shape.{Shape}
use Rattle.formula.specs.declared.Formula.{Formula}
use Rattle.table.specs.declared.Row.{Row}
use Rattle.table.specs.Table.{pieces_by, length_by}
use Rattle.table.specs.Order.{field_size, Ordered}
use Rattle.layout.specs.Fields.{words_in}
use Rattle.putting.specs.Plain.{plain_shape, plain_by}
use Rattle.putting.specs.Bytes.{head_bytes, field_bytes, fields_bytes, word_bytes, record_bytes, Ready}
use Rattle.putting.proofs.PlainLaws.{plain_count, plain_words}
use Rattle.putting.proofs.RecordLaws.{length-head, length-field, field_at, length_fields, words_many}

-- ---- the fields, each behind the one before it, if it is stored
pub fields_put : (r : Row) (h : Shape) (out : List ℕ) → Ordered r
    → sets (sets (sets out r.mode.at (field_bytes r.mode h.mode)) r.p.at (field_bytes r.p h.p)) r.q.at (field_bytes r.q h.q) ≡ sets out 16 (fields_bytes r h)
unfolding fields_bytes
fields_put r h out o =
    let first = field_bytes r.mode h.mode in
    let second = field_bytes r.p h.p in
    let third = field_bytes r.q h.q in
    let l = length-field r.mode h.mode in
    next out (first ++ second) third 16 (16 + field_size r.mode + field_size r.p)
    (next out first second 16 (16 + field_size r.mode) (field_at r.mode _ 16 _ o.mode) (omega (arith, l)) (field_at r.p _ _ _ o.p))
    (omega (arith, l, length-field r.p h.p, length-append first second))
    (field_at r.q _ _ _ o.q)

-- ---- the record
module _ (r : Row) (h : Shape) (f : Formula) (e : h ≡ plain_shape r f.shape) (d : Ready r (plain_by r f)) where
  pub first_counts : h.p ≤ r.p.most
  unfolding plain_by
  first_counts = rw e d.p.1

  pub second_counts : h.q ≤ r.q.most
  unfolding plain_by
  second_counts = rw e d.q.1

  -- as many pieces as the plain formula has words
  many : pieces_by r h.p h.q ≡ plain_count r f
  unfolding plain_by
  many = rw e (sym (words_many r (plain_by r f) d))

  -- of four bytes each
  pub reach : r.head + 4 * pieces_by r h.p h.q ≡ length_by r h.p h.q
  reach = ap (λ (n : ℕ). r.head + n * pieces_by r h.p h.q) (sym (d.ruled.words d.class))

  own_words : pieces_by r h.p h.q ≤ length f.words → take (pieces_by r h.p h.q) f.words ≡ words_in (plain_by r f)
  own_words l = rw many (sym (plain_words r f (omega (arith, many, l))))

  pub all_put : (out : List ℕ) → pieces_by r h.p h.q ≤ length f.words
      → sets (sets (sets out 0 (head_bytes (length_by r h.p h.q) r.code f.number f.lo f.hi)) 16 (fields_bytes r h)) r.head (word_bytes (take (pieces_by r h.p h.q) f.words)) ≡ sets out 0 (record_bytes r (plain_by r f))
  unfolding record_bytes plain_by
  all_put out l =
      let g = plain_shape r f.shape in
      let size = length_by r g.p g.q in
      let head = head_bytes size r.code f.number f.lo f.hi in
      let fields = fields_bytes r g in
      let k = length-head size r.code f.number f.lo f.hi in
      rw (own_words l, e)
      (next out (head ++ fields) (word_bytes (words_in (plain_by r f))) 0 r.head (next out head fields 0 16 refl (omega (arith, k)) refl)
      (omega (arith, k, length_fields r g d.ordered, length-append head fields))
      refl)
