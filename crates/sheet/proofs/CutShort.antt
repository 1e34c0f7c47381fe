-- Promise: a copy of an accepted sheet that is cut short is refused by 1, whatever record the cut falls into; and one with bytes behind it
-- by 9, at the first byte too many. All before that record is without fault, and of the record fewer bytes are left than it says.
use Rattle.whole.proofs.Basics.{◌≡◌, ◌∙◌, refl, sym, ap, Bool, true, false, ◌⊎◌, inl, inr, List, [], ◌∷◌, ◌++◌, append_assoc, append-nil, ℕ, ◌+◌, ◌-◌, ◌≤◌, ◌<◌, arith, ltb, length, take, drop, length-append, ltb-true, ltb-false, lt-ltb, le-ltb}
use lib.ListN.{take-append-drop}
use lib.Seq.{take-add, take-append_seam, drop-append_seam, length-take-le}
use Rattle.table.specs.declared.Class.{Class}
use Rattle.table.specs.declared.Class.TheVariants.{StartRecord, FormulaRecord, EndRecord}
use Rattle.layout.specs.Fields.{formula_number}
use Rattle.stored.specs.Numbers.{number4}
use Rattle.stored.proofs.NumberLaws.{number4_more}
use Rattle.refusal.specs.Guard.{refusal, refused_number, refused_place}
use Rattle.faults.specs.Faults.{frame_fault}
use Rattle.records.specs.Sheets.{RecordOf, EachFormula, Rising, in_line, SheetOf}
use Rattle.walking.specs.Refused.{RefusedAt}
use Rattle.walking.specs.Walking.{walk, fault_at}
use Rattle.walking.specs.declared.Walk.{Walk}
use Rattle.walking.proofs.Records.{there}
use Rattle.sheet.specs.Reader.{count_value, formula_count, Accepted}
use Rattle.sheet.proofs.AcceptedShape.{accepted_shape}
use Rattle.sheet.proofs.RefusedThere.{there_refused}
use Rattle.std.specs.Prelude.{None}

-- an accepted sheet with anything behind it is refused by 9, at the first byte too many
pub too_long_lem : (s : ℕ) (bytes after : List ℕ) → Accepted s bytes → 0 < length after → (refused_number (formula_count s (bytes ++ after)) ≡ 9) × (refused_place (formula_count s (bytes ++ after)) ≡ length bytes)
too_long_lem s bytes after a h =
    let e = there_refused s (bytes ++ after) (refusal (length bytes) 9)
    (inr (inr (record { count = _; sheet = bytes; after = after; whole = refl; shape = accepted_shape s bytes a; more = h; nine = refl }))) in
    (ap refused_number e, ap refused_place e)

-- ---- the record that a cut behind k bytes falls into
record CutInto (s next k : ℕ) (fs : List (List ℕ)) (line : List ℕ) : Type 0 where
  formulas : List (List ℕ)
  hit : List ℕ
  behind : List ℕ
  class : Class
  whole : line ≡ in_line formulas ++ (hit ++ behind)
  one : RecordOf class hit
  before : length (in_line formulas) ≤ k
  within : k < length (in_line formulas) + length hit
  few : length formulas ≤ length fs
  each : EachFormula s formulas
  rising : Rising next formulas

pub before_or_not : (i k : ℕ) → (i < k) ⊎ (k ≤ i)
before_or_not i k = at (ltb i k) refl
  where
    at : (t : Bool) → ltb i k ≡ t → (i < k) ⊎ (k ≤ i)
    at true e = inl (ltb-true i k e)
    at false e = inr (ltb-false i k e)

cut_into : (s : ℕ) (fs : List (List ℕ)) (finish : List ℕ) (next k : ℕ) → EachFormula s fs → Rising next fs → RecordOf EndRecord finish → k < length (in_line fs) + length finish → CutInto s next k fs (in_line fs ++ finish)
cut_into s [] finish next k f o r l =
    record { formulas = []; hit = finish; behind = []; class = EndRecord; whole = sym (append-nil finish); one = r; before = omega arith; within = l; few = omega arith; each = tt; rising = tt }
cut_into s (b ∷ bs) finish next k f o r l = at (before_or_not k (length b)) (cut_into s bs finish (formula_number b + 1) (k - length b) f.1 o.1 r)
  where
    at : (k < length b) ⊎ (length b ≤ k) → (k - length b < length (in_line bs) + length finish → CutInto s (formula_number b + 1) (k - length b) bs (in_line bs ++ finish)) → CutInto s next k (b ∷ bs) (in_line (b ∷ bs) ++ finish)
    at (inl h) t =
        record {
          formulas = [];
          hit = b;
          behind = in_line bs ++ finish;
          class = FormulaRecord;
          whole = append_assoc b (in_line bs) finish;
          one = f.0.one;
          before = omega arith;
          within = omega (arith, h);
          few = omega arith;
          each = tt;
          rising = tt;
        }
    at (inr h) t =
        let c = t (omega (arith, h, l, length-append b (in_line bs))) in
        record {
          formulas = b ∷ c.formulas;
          hit = c.hit;
          behind = c.behind;
          class = c.class;
          whole = append_assoc b (in_line bs) finish ∙ ap (λ (x : List ℕ). b ++ x) c.whole ∙ sym (append_assoc b (in_line c.formulas) (c.hit ++ c.behind));
          one = c.one;
          before = omega (arith, h, c.before, length-append b (in_line c.formulas));
          within = omega (arith, h, c.within, length-append b (in_line c.formulas));
          few = omega (arith, c.few);
          each = (f.0, c.each);
          rising = (o.0, c.rising);
        }

-- ---- its frame: fewer than 4 bytes, or fewer than it says
module _ (before hit behind : List ℕ) (class : Class) (r : RecordOf class hit) (k : ℕ) (l : length before ≤ k) (m : k < length before + length hit) where
  abbrev all : List ℕ
  all = before ++ (hit ++ behind)

  left : length (take k all) ≡ k
  left = length-take-le k all (omega (arith, m, length-append before (hit ++ behind), length-append hit behind))

  says : length before + 4 ≤ k → number4 (take k all) (length before) ≡ length hit
  says h =
      let e : number4 (take k all ++ drop k all) (length before) ≡ number4 (take k all) (length before) = number4_more (take k all) (drop k all) (length before) (omega (arith, h, left)) in
      sym e ∙ ap (λ (x : List ℕ). number4 x (length before)) (take-append-drop k all) ∙ there before hit behind class r

  cut_frame : frame_fault (take k all) (length before) ≡ 1
  unfolding frame_fault
  cut_frame = at (before_or_not (k - length before) 4)
    where
      at : (k - length before < 4) ⊎ (4 ≤ k - length before) → frame_fault (take k all) (length before) ≡ 1
      at (inl h) = rw (left) (simp (lt-ltb (k - length before) 4 h))
      at (inr h) =
          rw (left, says (omega (arith, h, l)))
          (simp (le-ltb (k - length before) 4 h, le-ltb (length hit) 8 r.least, le-ltb 120 (length hit) r.most, lt-ltb (k - length before) (length hit) (omega (arith, l, m))))

  kept : take k all ≡ before ++ take (k - length before) (hit ++ behind)
  kept =
      let j : k ≡ length before + (k - length before) = omega (arith, l) in
      ap (λ (n : ℕ). take n all) j ∙ take-add (length before) (k - length before) all ∙ rw (take-append_seam before (hit ++ behind), drop-append_seam before (hit ++ behind)) refl

-- ---- so the record gives 1
broken_off : (s : ℕ) (bytes : List ℕ) (w : Walk) → frame_fault bytes (w.at - 0) ≡ 1 → fault_at s bytes 0 w ≡ 1
unfolding fault_at
broken_off s bytes w e = rw e refl

module _ (s c : ℕ) (bytes : List ℕ) (h : SheetOf s c bytes) (k : ℕ) where
  in_the_start : k < length h.start → RefusedAt s (take k bytes) (refusal 0 1)
  in_the_start l =
      let rest = in_line h.formulas ++ h.finish in
      let f = cut_frame [] h.start rest StartRecord h.opens.0 k (omega arith) (omega (arith, l)) in
      inl (record { place = refl; fault = broken_off s (take k bytes) (walk 0 0 0 0 None None) (rw h.whole f); some = λ z. omega arith })

  module _ (l : length h.start ≤ k) (t : CutInto s 0 (k - length h.start) h.formulas (in_line h.formulas ++ h.finish)) where
    abbrev before : List ℕ
    before = h.start ++ in_line t.formulas

    long : length before ≡ length h.start + length (in_line t.formulas)
    long = length-append h.start (in_line t.formulas)

    around : bytes ≡ before ++ (t.hit ++ t.behind)
    around = h.whole ∙ ap (λ (x : List ℕ). h.start ++ x) t.whole ∙ sym (append_assoc h.start (in_line t.formulas) (t.hit ++ t.behind))

    far : length before ≤ k
    far = omega (arith, l, long, t.before)

    near : k < length before + length t.hit
    near = omega (arith, l, long, t.within)

    behind_the_start : RefusedAt s (take k bytes) (refusal (length h.start + length (in_line t.formulas)) 1)
    behind_the_start =
        let f = cut_frame before t.hit t.behind t.class t.one k far near in
        let i : length before ≡ length h.start + length (in_line t.formulas) - 0 = omega (arith, long) in
        inr
        (inl
        (record {
          start = h.start;
          formulas = t.formulas;
          after = take (k - length before) (t.hit ++ t.behind);
          whole = rw around (kept before t.hit t.behind t.class t.one k far near ∙ append_assoc h.start (in_line t.formulas) (take (k - length before) (t.hit ++ t.behind)));
          scale = h.scale;
          opens = let n = h.opens in (n.0, rw n.1 n.2, rw n.1 n.3);
          room = omega (arith, t.few, h.many, h.opens.1);
          each = t.each;
          rising = t.rising;
          place = refl;
          fault = broken_off s (take k bytes) _ (rw (around, ← i) f);
          some = λ z. omega arith;
        }))

pub cut_short : (s : ℕ) (bytes : List ℕ) (k : ℕ) → Accepted s bytes → k < length bytes → refused_number (formula_count s (take k bytes)) ≡ 1
cut_short s bytes k a m =
    let h = accepted_shape s bytes a in
    let long : length bytes ≡ length h.start + (length (in_line h.formulas) + length h.finish) = ap length h.whole ∙ omega (arith, length-append h.start (in_line h.formulas ++ h.finish), length-append (in_line h.formulas) h.finish) in
    at h long (before_or_not k (length h.start))
  where
    at : (h : SheetOf s (count_value (formula_count s bytes)) bytes) → length bytes ≡ length h.start + (length (in_line h.formulas) + length h.finish) → (k < length h.start) ⊎ (length h.start ≤ k) → refused_number (formula_count s (take k bytes)) ≡ 1
    at h long (inl l) = ap refused_number (there_refused s (take k bytes) (refusal 0 1) (in_the_start s _ bytes h k l))
    at h long (inr l) =
        let t = cut_into s h.formulas h.finish 0 (k - length h.start) h.each h.rising h.closes.0 (omega (arith, l, long, m)) in
        ap refused_number (there_refused s (take k bytes) _ (behind_the_start s _ bytes h k l t))
