-- The bytes of a record: their lengths, and where each part of them stands.
use Rattle.whole.proofs.Basics.{◌≡◌, ◌∙◌, refl, sym, ap, Bool, true, false, cond, inl, inr, List, [], ◌∷◌, ◌++◌, append_assoc, append-nil, ℕ, ◌+◌, ◌*◌, ◌<◌, arith, eqb, length, take, get_or, length-append, ℤ, pos, eq-eqb}
use native.Mathlib.Numerals.{add-one}
use lib.Seq.{sets, take-suc, length-take-le}
use Rattle.stored.specs.Numbers.{bytes2, bytes4, pattern}
use Rattle.stored.proofs.StoreLaws.{next, length-bytes2, length-bytes4}
use Rattle.formula.specs.declared.Shape.{Shape}
use Rattle.formula.specs.declared.Formula.{Formula}
use Rattle.formula.specs.Formula.{word_count}
use Rattle.table.specs.declared.Field.{Field}
use Rattle.table.specs.declared.Row.{Row}
use Rattle.table.specs.Table.{pieces_by, length_by}
use Rattle.table.specs.Order.{field_size, Stands, Ordered}
use Rattle.layout.specs.Fields.{words_in}
use Rattle.putting.specs.Bytes.{front_bytes, head_bytes, field_bytes, fields_bytes, word_bytes, record_bytes, Ready}

-- ---- the front, the head and the fields

pub length_front : (n code number : ℕ) → length (front_bytes n code number) ≡ 8
unfolding front_bytes
length_front n code number = simp (length-append, length-bytes4, length-bytes2)

pub length-head : (n code number : ℕ) (lo hi : ℤ) → length (head_bytes n code number lo hi) ≡ 16
unfolding head_bytes
length-head n code number lo hi = simp (length-append, length_front, length-bytes4)

pub length-field : (f : Field) (n : ℕ) → length (field_bytes f n) ≡ field_size f
unfolding field_bytes
length-field f n = at (eqb f.at 0)
  where
    at : (t : Bool) → length (cond t [] (bytes2 n)) ≡ cond t 0 2
    at true = refl
    at false = length-bytes2 n

-- a field that is not stored may be put anywhere
pub field_at : (f : Field) (n place : ℕ) (d : List ℕ) → Stands f place → sets d f.at (field_bytes f n) ≡ sets d place (field_bytes f n)
unfolding field_bytes
field_at f n place d (inl z) = simp (eq-eqb f.at 0 z)
field_at f n place d (inr e) = ap (λ (k : ℕ). sets d k (field_bytes f n)) e

pub length_fields : (r : Row) (h : Shape) → Ordered r → 16 + length (fields_bytes r h) ≡ r.head
unfolding fields_bytes
length_fields r h o =
    let m = field_bytes r.mode h.mode in
    let p = field_bytes r.p h.p in
    let q = field_bytes r.q h.q in
    omega (
      arith,
      o.head,
      length-append (m ++ p) q,
      length-append m p,
      length-field r.mode h.mode,
      length-field r.p h.p,
      length-field r.q h.q,
    )

-- ---- the words

pub length_word_bytes : (ws : List ℤ) → length (word_bytes ws) ≡ 4 * length ws
unfolding word_bytes
length_word_bytes [] = refl
length_word_bytes (z ∷ zs) = omega (arith, length-append (bytes4 (pattern z)) (word_bytes zs), length-bytes4 (pattern z), length_word_bytes zs)

-- one word more, as a loop writes it
snoc : (ws : List ℤ) (z : ℤ) → word_bytes (ws ++ (z ∷ [])) ≡ word_bytes ws ++ bytes4 (pattern z)
unfolding word_bytes
snoc [] z = append-nil (bytes4 (pattern z))
snoc (y ∷ ys) z = ap (λ (l : List ℕ). bytes4 (pattern y) ++ l) (snoc ys z) ∙ sym (append_assoc (bytes4 (pattern y)) (word_bytes ys) (bytes4 (pattern z)))

-- a turn of that loop
pub turn : {d e : List ℕ} (out : List ℕ) (at i : ℕ) (ws : List ℤ) (z : ℤ) → i < length ws → d ≡ sets out at (word_bytes (take i ws)) → z ≡ get_or ws i (pos 0) → e ≡ sets d (at + 4 * i) (bytes4 (pattern z))
    → e ≡ sets out at (word_bytes (take (i + 1) ws))
turn out at i ws z h p q r =
    let n : at + 4 * i ≡ at + length (word_bytes (take i ws)) = omega (arith, length_word_bytes (take i ws), length-take-le i ws (omega arith)) in
    rw (add-one i, take-suc ws i (pos 0) h, snoc (take i ws) (get_or ws i (pos 0))) (next out (word_bytes (take i ws)) (bytes4 (pattern (get_or ws i (pos 0)))) at (at + 4 * i) p n (rw q at r))

-- ---- the record
module _ (r : Row) (f : Formula) (d : Ready r f) where
  -- as many words as the row has pieces
  pub words_many : word_count f.shape.kind f.shape.p f.shape.q ≡ pieces_by r f.shape.p f.shape.q
  words_many = rw d.kind (d.ruled.many d.class f.shape.p f.shape.q)

  pub length_record : length (record_bytes r f) ≡ length_by r f.shape.p f.shape.q
  unfolding record_bytes
  length_record =
      let head = head_bytes (length_by r f.shape.p f.shape.q) r.code f.number f.lo f.hi in
      let fields = fields_bytes r f.shape in
      let wide : r.width * pieces_by r f.shape.p f.shape.q ≡ 4 * pieces_by r f.shape.p f.shape.q = ap (λ (n : ℕ). n * pieces_by r f.shape.p f.shape.q) (d.ruled.words d.class) in
      omega (
        arith,
        wide,
        length-append (head ++ fields) (word_bytes (words_in f)),
        length-append head fields,
        length-head (length_by r f.shape.p f.shape.q) r.code f.number f.lo f.hi,
        length_fields r f.shape d.ordered,
        length_word_bytes (words_in f),
        length-take-le _ f.words d.long,
        words_many,
      )
