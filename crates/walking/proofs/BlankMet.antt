-- A blank record on the walk's way. Behind formula records of any numbers and values the walk is broken at it, by 14 or by what comes before that, or at an
-- earlier record: each of these breaks the walk or lets it come to the next. Behind formulas without fault, with nothing else wrong, it is broken by 14.
use Rattle.whole.proofs.Basics.{◌≡◌, ◌∙◌, refl, sym, ap, subst, Bool, true, false, inl, inr, List, [], ◌∷◌, ◌++◌, append_assoc, ℕ, suc, zero, ◌+◌, ◌-◌, ◌≤◌, ◌<◌, arith, T, eqb, length, length-append, eqb-true, eqb-false, ne_eqb, le-ltb}
use native.Mathlib.Nat.{zero-add}
use Rattle.word.specs.Words.{Scale}
use Rattle.table.specs.declared.Class.TheVariants.{StartRecord, FormulaRecord}
use Rattle.layout.specs.Fields.{row_for, count_of, formula_number, shape_of, lo_of, hi_of, words_of}
use Rattle.refusal.specs.Guard.{refusal}
use Rattle.faults.specs.Faults.{order_fault, own_fault, words_fault}
use Rattle.faults.specs.Refusals.{OneOf, record_refusals}
use Rattle.refusal.specs.declared.Refusal.{Refusal}
use Rattle.faults.proofs.Chain.{neither}
use Rattle.faults.proofs.FaultSets.{Fault, one_of, some, first, order_set, own-set, words-set}
use Rattle.records.specs.Records.{value_fault, inner_fault}
use Rattle.records.specs.Sheets.{RecordOf, in_line}
use Rattle.records.proofs.Soundness.{not_blank, fourteen}
use Rattle.walking.specs.Walking.{begin, fault_at, after_start, after_formula, walk_from, walk_of}
use Rattle.walking.specs.Refused.{next_number}
use Rattle.walking.specs.BlankRecords.{BlankBytes, EachFormulaRecord, BlankBehind, blank_refusals, BlankOrBefore, BlankNext}
use Rattle.walking.specs.declared.Walk.{Walk}
use Rattle.walking.proofs.Numbered.{fault}
use Rattle.walking.proofs.Formulas.{content_fault, goes_on, stops_at, in_place, after_all, behind, past_all}
use Rattle.walking.proofs.ShapeToWalk.{past_start}
use Rattle.std.specs.Prelude.{Err, Option}

-- ---- the values of a blank formula: 6, or 14
module _ (s : ℕ) (b : List ℕ) (h : BlankBytes b) where
  inner_set : Fault blank_refusals (inner_fault s (row_for b) b)
  unfolding value_fault
  inner_set =
      let r = row_for b in
      let six = one_of (0 ∷ blank_refusals) 6 tt in
      rw h.blank
      (first blank_refusals (own_fault r (shape_of r b) (lo_of b) (hi_of b)) _ (own-set blank_refusals six r (shape_of r b) (lo_of b) (hi_of b))
      (first blank_refusals (words_fault (words_of r b)) 14 (words-set blank_refusals six (words_of r b)) (one_of (0 ∷ blank_refusals) 14 tt)))

  inner_some : inner_fault s (row_for b) b ≡ 0 → ⊥
  inner_some e = subst T (sym h.blank ∙ not_blank s (row_for b) (shape_of (row_for b) b) (lo_of b) (hi_of b) (words_of (row_for b) b) e) tt

-- ---- behind any formula records

-- what is said behind the first of some records, of all of them
further : (at : ℕ) (c : List ℕ) (cs : List (List ℕ)) (r : Refusal) → BlankOrBefore (at + length c) cs r → BlankOrBefore at (c ∷ cs) r
further at c cs r (inl (p, o)) = inl (omega (arith, p, length-append c (in_line cs)), o)
further at c cs r (inr (p, o)) = inr (inr p, o)

module _ (s : ℕ) (bytes : List ℕ) (from : ℕ) where
  -- the walk stands at the blank record
  blank_here : (n : ℕ) (before b after : List ℕ) (w : Walk) → BlankBytes b → bytes ≡ before ++ (b ++ after) → w.at ≡ from + length before → (w.at ≡ 0 → ⊥)
      → (r : Refusal) × (walk_from n s bytes from w ≡ Err r) × (r.place ≡ w.at) × OneOf blank_refusals r.number
  unfolding walk_from
  blank_here zero before b after w h q a z = (refusal w.at 4, refl, refl, one_of blank_refusals 4 tt)
  blank_here (suc n) before b after w h q a z =
      let e = content_fault s bytes from before b after FormulaRecord w h.one q a (in_place s bytes from w.at z) in
      let none : fault_at s bytes from w ≡ 0 → ⊥ = λ f. inner_some s b h (neither (order_fault w.seen w.count w.next (formula_number b)) _ (sym e ∙ f)).1 in
      let set : Fault blank_refusals (fault_at s bytes from w) =
      rw e
      (first blank_refusals _ _ (order_set blank_refusals (one_of (0 ∷ blank_refusals) 4 tt) (one_of (0 ∷ blank_refusals) 5 tt) w.seen w.count w.next (formula_number b)) (inner_set s b h)) in
      (refusal w.at (fault_at s bytes from w), stops_at s bytes from before b after w n h.one.least q a none, refl, some blank_refusals _ none set)

  -- it comes to it, or is broken before
  pub blank_met : (n : ℕ) (records : List (List ℕ)) (before b after : List ℕ) (w : Walk) → EachFormulaRecord records → BlankBytes b → bytes ≡ before ++ (in_line records ++ (b ++ after)) → w.at ≡ from + length before → (w.at ≡ 0 → ⊥)
      → (r : Refusal) × (walk_from n s bytes from w ≡ Err r) × BlankOrBefore w.at records r
  unfolding walk_from
  blank_met n [] before b after w k h q a z =
      let m = blank_here n before b after w h q a z in
      (m.0, m.1, inl (omega (arith, m.2), m.3))
  blank_met zero (c ∷ cs) before b after w k h q a z = (refusal w.at 4, refl, inr (inl refl, one_of record_refusals 4 tt))
  blank_met (suc n) (c ∷ cs) before b after w k h q a z =
      let q' = q ∙ ap (λ (t : List ℕ). before ++ t) (append_assoc c (in_line cs) (b ++ after)) in
      by q' (blank_met n cs (before ++ c) b after (after_formula c w) k.1 h (q' ∙ sym (append_assoc before c (in_line cs ++ (b ++ after)))) (omega (arith, a, length-append before c)) (λ x. z (omega (arith, x))))
      (eqb (fault_at s bytes from w) 0) refl
    where
      by : bytes ≡ before ++ (c ++ (in_line cs ++ (b ++ after))) → (r : Refusal) × (walk_from n s bytes from (after_formula c w) ≡ Err r) × BlankOrBefore (w.at + length c) cs r
          → (t : Bool) → eqb (fault_at s bytes from w) 0 ≡ t → (r : Refusal) × (walk_from (suc n) s bytes from w ≡ Err r) × BlankOrBefore w.at (c ∷ cs) r
      by e m true f =
          let p = in_place s bytes from w.at z in
          let none = sym (content_fault s bytes from before c _ FormulaRecord w k.0 e a p) ∙ eqb-true _ _ f in
          (m.0, goes_on s bytes from before c _ FormulaRecord w n k.0 e a p none ∙ m.1, further w.at c cs m.0 m.2)
      by e m false f =
          let none = eqb-false _ _ f in
          (refusal w.at (fault_at s bytes from w), stops_at s bytes from before c _ w n k.0.least e a none, inr (inl refl, some record_refusals _ none (fault s bytes from w)))

-- over a sheet, from its start on
module _ (s : ℕ) (start rest : List ℕ) (asked : Option ℕ) (o : RecordOf StartRecord start) (h : BlankBehind rest) where
  abbrev bytes : List ℕ
  bytes = start ++ rest

  abbrev begun : Walk
  begun = begin 0 asked

  pub blank_walked : (r : Refusal) × (walk_of s bytes 0 asked ≡ Err r) × BlankOrBefore 0 (start ∷ h.records) r
  unfolding walk_of
  blank_walked = by (eqb (fault_at s bytes 0 begun) 0) refl
    where
      by : (t : Bool) → eqb (fault_at s bytes 0 begun) 0 ≡ t → (r : Refusal) × (walk_from 66 s bytes 0 begun ≡ Err r) × BlankOrBefore 0 (start ∷ h.records) r
      by true f =
          let m = blank_met s bytes 0 65 h.records start h.blank h.after (after_start start begun) h.each h.is (ap (λ (t : List ℕ). start ++ t) h.whole) (omega arith) (λ z. omega (arith, z, o.least)) in
          let none = sym (content_fault s bytes 0 [] start rest StartRecord begun o refl refl refl) ∙ eqb-true _ _ f in
          (m.0, goes_on s bytes 0 [] start rest StartRecord begun 65 o refl refl refl none ∙ m.1, further 0 start h.records m.0 (subst (λ (n : ℕ). BlankOrBefore n h.records m.0) (sym (zero-add (length start))) m.2))
      by false f =
          let none = eqb-false _ _ f in
          (refusal 0 (fault_at s bytes 0 begun), stops_at s bytes 0 [] start rest begun 65 o.least refl refl none, inr (inl refl, some record_refusals _ none (fault s bytes 0 begun)))

-- ---- behind formulas without fault
module _ (s : ℕ) (bytes : List ℕ) (from : ℕ) (before rest : List ℕ) (most : ℕ) (h : BlankNext s most rest) (q : bytes ≡ before ++ rest) (w : Walk) (a : w.at ≡ from + length before) (z : w.at ≡ 0 → ⊥) (first-number : w.next ≡ 0) (none_seen : w.seen ≡ 0) (count : w.count ≡ most) where
  abbrev v : Walk
  v = after_all h.formulas w

  abbrev front : List ℕ
  front = before ++ in_line h.formulas

  whole : bytes ≡ before ++ (in_line h.formulas ++ (h.blank ++ h.after))
  whole = q ∙ ap (λ (t : List ℕ). before ++ t) h.whole

  there : bytes ≡ front ++ (h.blank ++ h.after)
  there = whole ∙ sym (append_assoc before (in_line h.formulas) (h.blank ++ h.after))

  at : v.at ≡ from + length front
  at = omega (arith, (behind h.formulas w).at, a, length-append before (in_line h.formulas))

  fourteen_here : fault_at s bytes from v ≡ 14
  unfolding order_fault
  fourteen_here =
      let b = h.blank in
      let d = behind h.formulas w in
      let next : v.next ≡ next_number 0 h.formulas = d.next ∙ ap (λ (n : ℕ). next_number n h.formulas) first-number in
      let r = row_for b in
      content_fault s bytes from front b h.after FormulaRecord v h.is.one there at (in_place s bytes from v.at (λ x. z (omega (arith, x, d.at))))
      ∙ rw (ne_eqb v.seen v.count (λ x. omega (arith, x, d.seen, d.count, none_seen, count, h.room)), le-ltb (formula_number b) v.next (omega (arith, next, h.number)))
      (fourteen s r (shape_of r b) (lo_of b) (hi_of b) (words_of r b) h.own h.words h.is.blank)

  pub fourteen_met : (n : ℕ) → length h.formulas < n → walk_from n s bytes from w ≡ Err (refusal (w.at + length (in_line h.formulas)) 14)
  fourteen_met n l =
      let k = n - length h.formulas - 1 in
      let m : n ≡ length h.formulas + suc k = omega (arith, l) in
      ap (λ (j : ℕ). walk_from j s bytes from w) m
      ∙ past_all s bytes from h.formulas before (h.blank ++ h.after) w (suc k) whole a z (omega (arith, none_seen, count, h.room)) h.each (rw first-number h.rising)
      ∙ stops_at s bytes from front h.blank h.after v k h.is.one.least there at (λ e. omega (arith, e, fourteen_here))
      ∙ ap Err (rw (fourteen_here, (behind h.formulas w).at) refl)

pub fourteen_walked : (s : ℕ) (start rest : List ℕ) (asked : Option ℕ) → Scale s → RecordOf StartRecord start → 1 ≤ count_of start → count_of start ≤ 64 → (h : BlankNext s (count_of start) rest)
    → walk_of s (start ++ rest) 0 asked ≡ Err (refusal (length start + length (in_line h.formulas)) 14)
unfolding walk_of
fourteen_walked s start rest asked k o l m h =
    past_start s (start ++ rest) start rest asked 65 refl o l m k
    ∙ fourteen_met s (start ++ rest) 0 start rest (count_of start) h refl (after_start start (begin 0 asked)) (omega arith) (λ z. omega (arith, z, o.least)) refl refl refl 65 (omega (arith, h.room, m))
