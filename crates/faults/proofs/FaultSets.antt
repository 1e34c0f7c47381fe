-- Which numbers the checks of a record give: 0, or one of a set that has the numbers of its tests. Tests one behind the other keep to a set
-- that each of them keeps to; so a set is shown of each check once, over any set, and whoever has one hands in that it has the numbers.
use Rattle.whole.proofs.Basics.{◌≡◌, refl, subst, Bool, true, false, cond, not, ◌⊎◌, inl, inr, List, [], ◌∷◌, ℕ, ◌-◌, T, eqb, ltb, length, ℤ, pos, nat_abs, lt_z, eqb-true, eq-eqb}
use mathlib.Core.Bool.{◌||◌}
use Rattle.stored.specs.Numbers.{number4}
use Rattle.formula.specs.declared.Kind.{Kind}
use Rattle.formula.specs.declared.Kind.TheVariants.{Polynomial, Rational, Fraction, Root, Odd, Even, NoFormula}
use Rattle.formula.specs.declared.Shape.{Shape}
use Rattle.formula.specs.Blank.{blank_of}
use Rattle.table.specs.declared.Field.{Field}
use Rattle.table.specs.declared.Row.{Row}
use Rattle.table.specs.Table.{length_by}
use Rattle.layout.specs.Fields.{shape_of}
use Rattle.refusal.specs.Guard.{or_else}
use Rattle.faults.specs.Faults.{frame_fault, outside, count_fault, size_fault, length_fault, start_fault, scale_fault, order_fault, end_fault, word_fault, words_fault, interval_fault, kind_fault, own_fault, blank_fault}
use Rattle.faults.specs.Refusals.{OneOf}

-- ---- a list of numbers, by tests that are computed

abbrev pub among : List ℕ → ℕ → Bool
among [] n = false
among (k ∷ ks) n = eqb n k || among ks n

pub one_of : (l : List ℕ) (n : ℕ) → T (among l n) → OneOf l n
one_of [] n t = absurd t
one_of (k ∷ ks) n t = at (one_of ks n) (eqb n k) refl t
  where
    at : (T (among ks n) → OneOf ks n) → (b : Bool) → eqb n k ≡ b → T (b || among ks n) → (n ≡ k) ⊎ OneOf ks n
    at ih true e h = inl (eqb-true n k e)
    at ih false e h = inr (ih h)

pub not_zero : (l : List ℕ) (n : ℕ) → T (not (among l 0)) → OneOf l n → n ≡ 0 → ⊥
not_zero l n t h z = clash (among l 0) t (found l (subst (OneOf l) z h))
  where
    clash : (b : Bool) → T (not b) → T b → ⊥
    clash true f g = f
    clash false f g = g

    found : (l : List ℕ) → OneOf l 0 → T (among l 0)
    found [] h = h
    found (k ∷ ks) (inl e) = rw (eq-eqb 0 k e) tt
    found (k ∷ ks) (inr h) = later (eqb 0 k) (found ks h)
      where
        later : (b : Bool) → T (among ks 0) → T (b || among ks 0)
        later true g = tt
        later false g = g

-- ---- each check, over a set l
module _ (l : List ℕ) where
  -- 0, or one of the set
  abbrev pub Fault : ℕ → Type 0
  Fault n = OneOf (0 ∷ l) n

  pub none : Fault 0
  none = inl refl

  pub some : (n : ℕ) → (n ≡ 0 → ⊥) → Fault n → OneOf l n
  some n z (inl e) = absurd (z e)
  some n z (inr h) = h

  pub test : (t : Bool) {a b : ℕ} → Fault a → Fault b → Fault (cond t a b)
  test true h k = h
  test false h k = k

  pub first : (a b : ℕ) → Fault a → Fault b → Fault (or_else a b)
  first a b h k = test (eqb a 0) k h

  pub frame_set : Fault 1 → Fault 2 → (bytes : List ℕ) (at : ℕ) → Fault (frame_fault bytes at)
  unfolding frame_fault
  frame_set one two bytes at =
      test (ltb (length bytes - at) 4) one
      (test (ltb (number4 bytes at) 8) two
      (test (ltb 120 (number4 bytes at)) two
      (test (ltb (length bytes - at) (number4 bytes at)) one none)))

  outside_set : (f : Field) (n k : ℕ) → Fault k → Fault (outside f n k)
  unfolding outside
  outside_set f n k h = test (ltb n f.least) h (test (ltb f.most n) h none)

  pub count_set : Fault 2 → (r : Row) (p q : ℕ) → Fault (count_fault r p q)
  unfolding count_fault
  count_set two r p q = first _ _ (outside_set r.p p 2 two) (outside_set r.q q 2 two)

  pub length-set : Fault 2 → (r : Row) (b : List ℕ) → Fault (length_fault r b)
  unfolding length_fault size_fault
  length-set two r b =
      let h = shape_of r b in
      test (ltb (length b) r.head) two (first _ _ (count_set two r h.p h.q) (test (eqb (length_by r h.p h.q) (length b)) none two))

  pub start-set : Fault 4 → (r : Row) (c : ℕ) → Fault (start_fault r c)
  unfolding start_fault
  start-set four r c = outside_set r.count c 4 four

  pub scale-set : Fault 6 → (s : ℕ) → Fault (scale_fault s)
  unfolding scale_fault
  scale-set six s = test (ltb s 16) six (test (ltb 28 s) six none)

  pub order_set : Fault 4 → Fault 5 → (seen count next n : ℕ) → Fault (order_fault seen count next n)
  unfolding order_fault
  order_set four five seen count next n = test (eqb seen count) four (test (ltb n next) five none)

  pub end_set : Fault 4 → (seen count c : ℕ) → Fault (end_fault seen count c)
  unfolding end_fault
  end_set four seen count c = test (eqb seen count) (test (eqb c count) none four) four

  -- the stored values
  module _ (six : Fault 6) where
    word_set : (z : ℤ) → Fault (word_fault z)
    word_set z = test (ltb 2147483647 (nat_abs z)) six none

    pub words-set : (ws : List ℤ) → Fault (words_fault ws)
    unfolding words_fault
    words-set [] = none
    words-set (z ∷ ws) = first (word_fault z) (words_fault ws) (word_set z) (words-set ws)

    kind_set : (k : Kind) (lo : ℤ) → Fault (kind_fault k lo)
    kind_set Polynomial lo = none
    kind_set Rational lo = none
    kind_set Fraction lo = none
    kind_set Root lo = test (lt_z lo (pos 0)) six none
    kind_set Odd lo = none
    kind_set Even lo = none
    kind_set NoFormula lo = none

    pub own-set : (r : Row) (h : Shape) (lo hi : ℤ) → Fault (own_fault r h lo hi)
    unfolding own_fault interval_fault
    own-set r h lo hi =
        first _ _ (first _ _ (word_set lo) (first _ _ (word_set hi) (test (lt_z hi lo) six none)))
        (first _ _ (outside_set r.mode h.mode 6 six) (kind_set r.kind lo))

  pub blank-set : Fault 14 → (h : Shape) (ws : List ℤ) → Fault (blank_fault h ws)
  blank-set fourteen h ws = test (blank_of h ws) fourteen none
