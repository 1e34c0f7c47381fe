-- A formula is read again from its record's bytes: each part of them is read where it was put.
use Rattle.whole.proofs.Basics.{◌≡◌, ◌∙◌, refl, sym, ap, ap₂, subst, Bool, true, false, cond, inl, inr, List, [], ◌∷◌, ◌++◌, append_assoc, append-nil, ℕ, suc, ◌+◌, ◌-◌, ◌*◌, ◌/◌, ◌<◌, arith, eqb, length, get_or, length-append, ℤ, pos, w32, SFits, eqb-true, eqb-false, ne_eqb}
use lib.Seq.{length-take-le}
use Rattle.stored.specs.Numbers.{number2, number4, word4, bytes2, bytes4, pattern}
use Rattle.stored.specs.Words.{words}
use Rattle.stored.proofs.NumberLaws.{number2_at, number4_at, word4_at}
use Rattle.stored.proofs.StoreLaws.{length-bytes2, length-bytes4}
use Rattle.formula.specs.declared.Shape.{Shape}
use Rattle.formula.specs.declared.Formula.{Formula}
use Rattle.formula.specs.Formula.{word_count}
use Rattle.table.specs.declared.Field.{Field}
use Rattle.table.specs.declared.Row.{Row}
use Rattle.table.specs.Table.{row_of, pieces_by, length_by}
use Rattle.table.specs.Order.{field_size, Stands, Told}
use Rattle.table.proofs.Rule.{short}
use Rattle.layout.specs.Fields.{shape, formula, formula_number, lo_of, hi_of, row_for, words_of, first_count, field_of, shape_of, padded, words_in, formula_of}
use Rattle.putting.specs.Bytes.{front_bytes, head_bytes, field_bytes, fields_bytes, word_bytes, record_bytes, Ready}
use Rattle.putting.proofs.Fitting.{each_first}
use Rattle.putting.proofs.RecordLaws.{length_front, length-head, length-field, length_fields, length_record}

-- a formula that can be told from its bytes: each number fits, and what is not stored is 0
pub record Tidy (r : Row) (f : Formula) : Type 0 where
  pub ready : Ready r f
  pub told : Told r
  pub code : (r.code < 65536) × (row_of r.code ≡ r)
  pub number : f.number < 65536
  pub lo : SFits w32 f.lo
  pub hi : SFits w32 f.hi
  pub mode : (r.mode.at ≡ 0 → f.shape.mode ≡ 0) × (f.shape.mode < 65536)
  pub each : (k : ℕ) → SFits w32 (get_or f.words k (pos 0))
  pub rest : padded (words_in f) ≡ f.words

-- ---- the front: length, kind and number

module _ (n code number : ℕ) (t : List ℕ) where
  pub size_back : n < 4294967296 → number4 (front_bytes n code number ++ t) 0 ≡ n
  unfolding front_bytes
  size_back h = simp append_assoc (number4_at [] _ n 0 h refl)

  pub code_back : code < 65536 → number2 (front_bytes n code number ++ t) 4 ≡ code
  unfolding front_bytes
  code_back h = simp append_assoc (number2_at (bytes4 n) _ code 4 h (simp length-bytes4))

  pub number_back : number < 65536 → number2 (front_bytes n code number ++ t) 6 ≡ number
  unfolding front_bytes
  number_back h =
      rw (append_assoc (bytes4 n ++ bytes2 code) (bytes2 number) t) (number2_at (bytes4 n ++ bytes2 code) _ number 6 h (simp (length-append, length-bytes4, length-bytes2)))

-- ---- the head: lo and hi behind the front

module _ (n code number : ℕ) (lo hi : ℤ) (t : List ℕ) where
  at_front : head_bytes n code number lo hi ++ t ≡ front_bytes n code number ++ (bytes4 (pattern lo) ++ (bytes4 (pattern hi) ++ t))
  unfolding head_bytes
  at_front = simp append_assoc

  hi_back : SFits w32 hi → word4 (head_bytes n code number lo hi ++ t) 12 ≡ hi
  unfolding head_bytes
  hi_back h =
      let a = front_bytes n code number ++ bytes4 (pattern lo) in
      rw (append_assoc a (bytes4 (pattern hi)) t) (word4_at a t hi 12 h (simp (length-append, length_front, length-bytes4)))

-- ---- a field

stored_back : (f : Field) (n : ℕ) (a t : List ℕ) → Stands f (length a) → (f.at ≡ 0 → ⊥) → n < 65536 → number2 (a ++ (field_bytes f n ++ t)) f.at ≡ n
unfolding field_bytes
stored_back f n a t (inl z) h k = absurd (h z)
stored_back f n a t (inr e) h k = rw (ne_eqb f.at 0 h) (number2_at a t n f.at k e)

field_back : (f : Field) (n : ℕ) (a t : List ℕ) → Stands f (length a) → (f.at ≡ 0 → n ≡ 0) → n < 65536 → field_of f (a ++ (field_bytes f n ++ t)) ≡ n
unfolding field_of
field_back f n a t s z h = at (eqb f.at 0) refl
  where
    at : (b : Bool) → eqb f.at 0 ≡ b → cond b 0 (number2 (a ++ (field_bytes f n ++ t)) f.at) ≡ n
    at true q = sym (z (eqb-true _ _ q))
    at false q = stored_back f n a t s (eqb-false _ _ q) h

-- ---- the words

words_back : (a t : List ℕ) (ws : List ℤ) (k : ℕ) → ((i : ℕ) → SFits w32 (get_or ws i (pos 0))) → k ≡ length a → words (a ++ (word_bytes ws ++ t)) k (length ws) ≡ ws
unfolding words word_bytes bytes4
words_back a t [] k f e = refl
words_back a t (z ∷ zs) k f e =
    let w = bytes4 (pattern z) in
    let first : word4 (a ++ (w ++ (word_bytes zs ++ t))) k ≡ z = word4_at a (word_bytes zs ++ t) z k (f 0) e in
    let rest = words_back (a ++ w) t zs (k + 4) (λ i. f (suc i)) (omega (arith, e, length-append a w, length-bytes4 (pattern z))) in
    rw (append_assoc w (word_bytes zs) t) (ap₂ (λ (y : ℤ) (l : List ℤ). y ∷ l) first (rw (append_assoc a w (word_bytes zs ++ t)) at rest))

-- ---- the record

module _ (r : Row) (f : Formula) (d : Tidy r f) where
  abbrev head : List ℕ
  head = head_bytes (length_by r f.shape.p f.shape.q) r.code f.number f.lo f.hi

  abbrev tail : List ℕ
  tail = word_bytes (words_in f)

  abbrev mode_bytes : List ℕ
  mode_bytes = field_bytes r.mode f.shape.mode

  abbrev p_bytes : List ℕ
  p_bytes = field_bytes r.p f.shape.p

  abbrev q_bytes : List ℕ
  q_bytes = field_bytes r.q f.shape.q

  -- the bytes, cut before the mode, the first count, the second count
  at_mode : record_bytes r f ≡ head ++ (mode_bytes ++ (p_bytes ++ (q_bytes ++ tail)))
  unfolding record_bytes fields_bytes
  at_mode = simp append_assoc

  at_p : record_bytes r f ≡ (head ++ mode_bytes) ++ (p_bytes ++ (q_bytes ++ tail))
  at_p = at_mode ∙ sym (append_assoc head mode_bytes (p_bytes ++ (q_bytes ++ tail)))

  at_q : record_bytes r f ≡ ((head ++ mode_bytes) ++ p_bytes) ++ (q_bytes ++ tail)
  at_q = at_p ∙ sym (append_assoc (head ++ mode_bytes) p_bytes (q_bytes ++ tail))

  long_head : length head ≡ 16
  long_head = length-head _ _ _ _ _

  long_mode : length (head ++ mode_bytes) ≡ 16 + field_size r.mode
  long_mode = omega (arith, length-append head mode_bytes, long_head, length-field r.mode f.shape.mode)

  long_p : length ((head ++ mode_bytes) ++ p_bytes) ≡ 16 + field_size r.mode + field_size r.p
  long_p = omega (arith, length-append (head ++ mode_bytes) p_bytes, long_mode, length-field r.p f.shape.p)

  mode_back : field_of r.mode (record_bytes r f) ≡ f.shape.mode
  mode_back = rw at_mode (field_back r.mode f.shape.mode head _ (subst (Stands r.mode) (sym long_head) d.ready.ordered.mode) d.mode.0 d.mode.1)

  q_back : field_of r.q (record_bytes r f) ≡ f.shape.q
  q_back =
      rw at_q
      (field_back r.q f.shape.q ((head ++ mode_bytes) ++ p_bytes) tail (subst (Stands r.q) (sym long_p) d.ready.ordered.q)
      (λ z. omega (arith, d.told.q z, d.ready.q.1)) (omega (arith, d.ready.q.1, d.told.small.1)))

  -- a first count that is not stored is the number of words
  p_back : first_count r (record_bytes r f) ≡ f.shape.p
  unfolding first_count
  p_back = at (eqb r.p.at 0) refl
    where
      at : (t : Bool) → eqb r.p.at 0 ≡ t → cond t ((length (record_bytes r f) - r.head) / 4) (number2 (record_bytes r f) r.p.at) ≡ f.shape.p
      at true z =
          let e = d.told.p (eqb-true _ _ z) f.shape.p f.shape.q d.ready.p.1 d.ready.q.1 in
          let w : r.width * pieces_by r f.shape.p f.shape.q ≡ 4 * pieces_by r f.shape.p f.shape.q = ap (λ (n : ℕ). n * pieces_by r f.shape.p f.shape.q) (d.ready.ruled.words d.ready.class) in
          omega (arith, e, w, length_record r f d.ready)
      at false z =
          rw at_p (stored_back r.p f.shape.p (head ++ mode_bytes) _ (subst (Stands r.p) (sym long_mode) d.ready.ordered.p) (eqb-false _ _ z)
          (omega (arith, d.ready.p.1, d.told.small.0)))

  pub shape_again : shape_of r (record_bytes r f) ≡ f.shape
  unfolding shape_of
  shape_again = λ i. shape (sym d.ready.kind i) (p_back i) (q_back i) (mode_back i)

  at_words : record_bytes r f ≡ (head ++ fields_bytes r f.shape) ++ (tail ++ [])
  unfolding record_bytes
  at_words = rw (append-nil tail)

  pub words_again : words_of r (record_bytes r f) ≡ words_in f
  words_again =
      let a = head ++ fields_bytes r f.shape in
      let l : r.head ≡ length a = omega (arith, length-append head (fields_bytes r f.shape), long_head, length_fields r f.shape d.ready.ordered) in
      let n : length (words_in f) ≡ word_count f.shape.kind f.shape.p f.shape.q = length-take-le _ f.words d.ready.long in
      ap (λ (h : Shape). words (record_bytes r f) r.head (word_count h.kind h.p h.q)) shape_again
      ∙ ap (words (record_bytes r f) r.head) (sym n)
      ∙ ap (λ (b : List ℕ). words b r.head (length (words_in f))) at_words
      ∙ words_back a [] (words_in f) r.head (each_first (word_count f.shape.kind f.shape.p f.shape.q) f.words d.each) l

  -- the front's and the head's numbers stand before everything else
  at_head : record_bytes r f ≡ head ++ (fields_bytes r f.shape ++ tail)
  unfolding record_bytes
  at_head = append_assoc head (fields_bytes r f.shape) tail

  abbrev rest : List ℕ
  rest = (bytes4 (pattern f.lo) ++ (bytes4 (pattern f.hi) ++ (fields_bytes r f.shape ++ tail)))

  at_start : record_bytes r f ≡ front_bytes (length_by r f.shape.p f.shape.q) r.code f.number ++ rest
  at_start = at_head ∙ at_front _ _ _ _ _ _

  pub number_again : formula_number (record_bytes r f) ≡ f.number
  number_again = rw at_start (number_back _ _ _ _ d.number)

  pub lo_again : lo_of (record_bytes r f) ≡ f.lo
  lo_again = rw at_start (word4_at (front_bytes (length_by r f.shape.p f.shape.q) r.code f.number) _ f.lo 8 d.lo (simp length_front))

  pub hi_again : hi_of (record_bytes r f) ≡ f.hi
  hi_again = rw at_head (hi_back _ _ _ _ _ _ d.hi)

  pub formula_back : formula_of r (record_bytes r f) ≡ f
  unfolding formula_of
  formula_back =
      let ws : padded (words_of r (record_bytes r f)) ≡ f.words = ap padded words_again ∙ d.rest in
      λ i. formula (number_again i) (shape_again i) (lo_again i) (hi_again i) (ws i)

  -- ---- its length and its row

  pub size_again : number4 (record_bytes r f) 0 ≡ length (record_bytes r f)
  size_again =
      let l = length_record r f d.ready in
      let n = short r f.shape.p f.shape.q d.ready.ruled d.ready.p.1 d.ready.q.1 in
      rw at_start (size_back _ _ _ _ (omega (arith, n))) ∙ sym l

  pub row_back : row_for (record_bytes r f) ≡ r
  row_back = ap row_of (rw at_start (code_back _ _ _ _ d.code.0)) ∙ d.code.1
