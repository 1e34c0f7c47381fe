-- The place that the walk notes is that of a record with the number asked for, if there is one.
use Rattle.whole.proofs.Basics.{◌≡◌, ◌∙◌, refl, sym, ap, subst, Bool, true, false, cond, ◌⊎◌, inl, inr, List, [], ◌∷◌, ◌++◌, append_assoc, append-nil, ℕ, ◌+◌, ◌≤◌, arith, eqb, length, length-append, eqb-true, eqb-false, le-ltb}
use native.Mathlib.Nat.{add-zero}
use Rattle.table.specs.declared.Class.TheVariants.{FormulaRecord}
use Rattle.layout.specs.Fields.{bytes_at, formula_number}
use Rattle.faults.proofs.Frames.{framed, reaches}
use Rattle.records.specs.Sheets.{FormulaBytes, EachFormula, Rising, in_line, Has, SheetOf}
use Rattle.walking.specs.Walking.{walk_of, Walkable, Walked, whole}
use Rattle.walking.specs.Refused.{next_number}
use Rattle.walking.proofs.Records.{frame_there, bytes_there}
use Rattle.walking.proofs.Formulas.{place_in}
use Rattle.walking.proofs.WalkToShape.{shape}
use Rattle.walking.proofs.ShapeToWalk.{walked}
use Rattle.sheet.specs.Reader.{place_found, place_answer, formula_place, FormulaStands}
use Rattle.std.specs.Prelude.{Err, Ok, Option, Some, None}

-- a sheet is walked from its first byte
pub from_first : (s : ℕ) → Walkable s 0
from_first s = record { near = omega arith; scale = λ n. absurd (n refl) }

-- a record of the number n, at the place k, where the first of them stands at `at`
pub record RecordAt (n at k : ℕ) (fs : List (List ℕ)) : Type 0 where
  pub before : List (List ℕ)
  pub here : List ℕ
  pub after : List (List ℕ)
  pub is : fs ≡ before ++ (here ∷ after)
  pub number : formula_number here ≡ n
  pub place : k ≡ at + length (in_line before)

further : (n at k : ℕ) (b : List ℕ) (bs : List (List ℕ)) → RecordAt n (at + length b) k bs → RecordAt n at k (b ∷ bs)
further n at k b bs a =
    record {
      before = b ∷ a.before;
      here = a.here;
      after = a.after;
      is = ap (λ (t : List (List ℕ)). b ∷ t) a.is;
      number = a.number;
      place = omega (arith, a.place, length-append b (in_line a.before));
    }

-- the last record of the number, or the place that was noted before and no record of it
pub noted : (n at : ℕ) (k : Option ℕ) (fs : List (List ℕ)) → ((place_in (Some n) at k fs ≡ k) × (Has n fs → ⊥)) ⊎ ((j : ℕ) × (place_in (Some n) at k fs ≡ Some j) × RecordAt n at j fs)
noted n at k [] = inl (refl, λ h. h)
noted n at k (b ∷ bs) = by (eqb (formula_number b) n) refl (noted n (at + length b) (Some at) bs) (noted n (at + length b) k bs)
  where
    now : formula_number b ≡ n → RecordAt n at at (b ∷ bs)
    now q = record { before = []; here = b; after = bs; is = refl; number = q; place = sym (add-zero at) }

    absent : (formula_number b ≡ n → ⊥) → (Has n bs → ⊥) → Has n (b ∷ bs) → ⊥
    absent h g (inl e) = h e
    absent h g (inr e) = g e

    by : (t : Bool) → eqb (formula_number b) n ≡ t
        → ((place_in (Some n) (at + length b) (Some at) bs ≡ Some at) × (Has n bs → ⊥)) ⊎ ((j : ℕ) × (place_in (Some n) (at + length b) (Some at) bs ≡ Some j) × RecordAt n (at + length b) j bs)
        → ((place_in (Some n) (at + length b) k bs ≡ k) × (Has n bs → ⊥)) ⊎ ((j : ℕ) × (place_in (Some n) (at + length b) k bs ≡ Some j) × RecordAt n (at + length b) j bs)
        → ((place_in (Some n) (at + length b) (cond t (Some at) k) bs ≡ k) × (Has n (b ∷ bs) → ⊥)) ⊎ ((j : ℕ) × (place_in (Some n) (at + length b) (cond t (Some at) k) bs ≡ Some j) × RecordAt n at j (b ∷ bs))
    by true q (inl e) f = inr (at, e.0, now (eqb-true _ _ q))
    by true q (inr (j, e, a)) f = inr (j, e, further n at j b bs a)
    by false q e (inl f) = inl (f.0, absent (eqb-false _ _ q) f.1)
    by false q e (inr (j, f, a)) = inr (j, f, further n at j b bs a)

pub has : (n at k : ℕ) (fs : List (List ℕ)) → RecordAt n at k fs → Has n fs
has n at k fs a = subst (Has n) (sym a.is) (in_middle a.before)
  where
    in_middle : (l : List (List ℕ)) → Has n (l ++ (a.here ∷ a.after))
    in_middle [] = inl a.number
    in_middle (x ∷ l) = inr (in_middle l)

-- one of several records: what is known of it
middle : (s : ℕ) (l r : List (List ℕ)) (b : List ℕ) → EachFormula s (l ++ (b ∷ r)) → FormulaBytes s b
middle s [] r b e = e.0
middle s (x ∷ l) r b e = middle s l r b e.1

-- and of what stands before it
pub each_before : (s : ℕ) (l : List (List ℕ)) (b : List ℕ) (r : List (List ℕ)) → EachFormula s (l ++ (b ∷ r)) → EachFormula s l
each_before s [] b r h = tt
each_before s (x ∷ l) b r h = (h.0, each_before s l b r h.1)

pub rising_before : (n : ℕ) (l : List (List ℕ)) (b : List ℕ) (r : List (List ℕ)) → Rising n (l ++ (b ∷ r)) → Rising n l × (next_number n l ≤ formula_number b)
rising_before n [] b r h = (tt, h.0)
rising_before n (x ∷ l) b r h = let t = rising_before (formula_number x + 1) l b r h.1 in ((h.0, t.0), t.1)

in_line_append : (l r : List (List ℕ)) → in_line (l ++ r) ≡ in_line l ++ in_line r
in_line_append [] r = refl
in_line_append (x ∷ l) r = ap (λ (t : List ℕ). x ++ t) (in_line_append l r) ∙ sym (append_assoc x (in_line l) (in_line r))

-- one of the records of a sheet, with what stands before and behind it
pub around : (start : List ℕ) (l : List (List ℕ)) (b : List ℕ) (r : List (List ℕ)) (finish : List ℕ)
    → start ++ (in_line (l ++ (b ∷ r)) ++ finish) ≡ start ++ (in_line l ++ (b ++ (in_line r ++ finish)))
around start l b r finish =
    ap (λ (t : List ℕ). start ++ (t ++ finish)) (in_line_append l (b ∷ r))
    ∙ ap (λ (t : List ℕ). start ++ t) (append_assoc (in_line l) (b ++ in_line r) finish ∙ ap (λ (t : List ℕ). in_line l ++ t) (append_assoc b (in_line r) finish))

-- such a record stands at that place of the sheet
pub stands : (s c : ℕ) (bytes : List ℕ) (h : SheetOf s c bytes) (n k : ℕ) (a : RecordAt n (length h.start) k h.formulas) → FormulaStands s bytes k × (bytes_at bytes k ≡ a.here)
stands s c bytes h n k a =
    let b = a.here in
    let f : FormulaBytes s b = middle s a.before a.after b (subst (EachFormula s) a.is h.each) in
    let pre = h.start ++ in_line a.before in
    let post = in_line a.after ++ h.finish in
    let e : bytes ≡ pre ++ (b ++ post) =
    h.whole
    ∙ ap (λ (t : List (List ℕ)). h.start ++ (in_line t ++ h.finish)) a.is
    ∙ around h.start a.before b a.after h.finish
    ∙ sym (append_assoc h.start (in_line a.before) (b ++ post)) in
    let l : k ≡ length pre = a.place ∙ sym (length-append h.start (in_line a.before)) in
    let y : bytes_at bytes k ≡ b = rw (e, l) (bytes_there pre b post FormulaRecord f.one) in (
      record {
        scale = h.scale;
        reach = reaches bytes k (framed bytes k (rw (e, l) (frame_there pre b post FormulaRecord f.one)));
        here = subst (FormulaBytes s) (sym y) f;
      },
      y,
    )

-- the place that a walk over an accepted sheet notes
pub place_is : (s c : ℕ) (k : Option ℕ) (bytes : List ℕ) (h : SheetOf s c bytes) (asked : Option ℕ) → walk_of s bytes 0 asked ≡ whole c k → k ≡ place_in asked (length h.start) None h.formulas
place_is s c k bytes h asked e =
    let w = rw (append-nil bytes, le-ltb (length bytes) (length bytes + 0) (omega arith)) at (walked s c bytes [] h asked) in
    ap note (sym e ∙ w)
  where
    note : Walked → Option ℕ
    note (Ok w) = w.found
    note (Err r) = None

pub standing : (s c k : ℕ) (bytes : List ℕ) (n : ℕ) → walk_of s bytes 0 (Some n) ≡ whole c (Some k) → FormulaStands s bytes k
standing s c k bytes n e =
    let h = shape s bytes c (Some k) (Some n) e in
    let q = place_is s c (Some k) bytes h (Some n) e in
    by h q (noted n (length h.start) None h.formulas)
  where
    by : (h : SheetOf s c bytes) → Some k ≡ place_in (Some n) (length h.start) None h.formulas
        → ((place_in (Some n) (length h.start) None h.formulas ≡ None) × (Has n h.formulas → ⊥)) ⊎ ((j : ℕ) × (place_in (Some n) (length h.start) None h.formulas ≡ Some j) × RecordAt n (length h.start) j h.formulas)
        → FormulaStands s bytes k
    by h q (inl x) = absurd (let z : ◌≡◌ {A = ℕ} 0 1 = cc (q, x.0) in omega arith)
    by h q (inr (j, e, a)) = let i : j ≡ k = cc in (stands s c bytes h n k (subst (λ (x : ℕ). RecordAt n (length h.start) x h.formulas) i a)).0

-- the place that the reader answers
pub place_standing : (s : ℕ) (bytes : List ℕ) (n k : ℕ) → formula_place s bytes n ≡ Ok k → FormulaStands s bytes k
unfolding formula_place
place_standing s bytes n k e = by (walk_of s bytes 0 (Some n)) refl e
  where
    noted_at : (c : ℕ) (j : Option ℕ) → walk_of s bytes 0 (Some n) ≡ whole c j → place_found j ≡ Ok k → FormulaStands s bytes k
    noted_at c None q p = absurd (let z : ◌≡◌ {A = ℕ} 0 1 = cc in omega arith)
    noted_at c (Some j) q p = let i : j ≡ k = cc in standing s c k bytes n (rw i at q)

    by : (w : Walked) → walk_of s bytes 0 (Some n) ≡ w → place_answer w ≡ Ok k → FormulaStands s bytes k
    by (Ok w) q p = noted_at w.count w.found q p
    by (Err r) q p = absurd (let z : ◌≡◌ {A = ℕ} 0 1 = cc in omega arith)
