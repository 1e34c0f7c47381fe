-- A formula record's check by its code: the front, then 14 by the first words, then what the kind's own admission has found over the words. What all kinds' checks
-- need, said once: of the row that was found, of the record past its front, and of the answer.
use Rattle.whole.proofs.Basics.{arith, ◌≡◌, ◌∙◌, refl, sym, ap, subst, Bool, true, false, cond, List, ℕ, ◌-◌, ◌/◌, ◌≤◌, eqb, length, take, ℤ, eqb-true}
use Rattle.word.specs.Lists.{Words}
use Rattle.stored.specs.Words.{values}
use Rattle.stored.proofs.WordsLaws.{length-words}
use Rattle.stored.proofs.ValuesLaws.{length-values}
use Rattle.admission.specs.Admission.{admission_number, Judged, Admission}
use Rattle.formula.specs.declared.Kind.{Kind}
use Rattle.formula.specs.Formula.{most_of, word_count, admission_by, admission_of}
use Rattle.formula.specs.Blank.{all_zero, blank_by, blank_of}
use Rattle.formula.proofs.IntervalLaws.{most_word}
use Rattle.formula.proofs.BlankLaws.{first_zero}
use Rattle.table.specs.Table.{row_of}
use Rattle.table.specs.declared.Class.TheVariants.{FormulaRecord}
use Rattle.table.specs.declared.Row.{Row}
use Rattle.table.proofs.Rule.{ruled}
use Rattle.layout.specs.Fields.{formula_number, shape_of, lo_of, hi_of, words_of, Complete}
use Rattle.layout.proofs.Complete.{complete, reach, by_length_lem}
use Rattle.refusal.specs.Guard.{or_else}
use Rattle.faults.specs.Faults.{outside, length_fault, order_fault, word_fault, words_fault, interval_fault, own_fault, blank_fault}
use Rattle.faults.proofs.Chain.{stop, pass, neither, or_assoc}
use Rattle.faults.proofs.Lengths.{laid}
use Rattle.faults.proofs.Values.{word, each_word, all_words}
use Rattle.faults.proofs.Lengths.{inside}
use Rattle.formula.specs.declared.Shape.{Shape}
use Rattle.records.specs.Records.{WordsOf, admission_fault, judged_fault, value_fault, formula_fault, front_fault}
use Rattle.std.specs.Prelude.{Err, Ok}

-- from the words on: 6, then 14, then 7 or 8
abbrev pub from_words : ℕ → Row → List ℕ → ℕ
from_words s r b =
    let h = shape_of r b in
    let ws = words_of r b in
    or_else (words_fault ws) (or_else (blank_fault h ws) (admission_fault s h (lo_of b) (hi_of b) ws))

-- the front, then these
pub front_first : (s : ℕ) (r : Row) (b : List ℕ) (seen count next : ℕ) → or_else (front_fault r b seen count next) (from_words s r b) ≡ formula_fault s r b seen count next
unfolding front_fault formula_fault value_fault
front_first s r b seen count next =
    let l = length_fault r b in
    let o = order_fault seen count next (formula_number b) in
    let w = own_fault r (shape_of r b) (lo_of b) (hi_of b) in
    or_assoc l (or_else o w) _ ∙ ap (or_else l) (or_assoc o w _)

-- by what admission has found: 6 of the words, then its number
judged_fault_lem : (ws : List ℤ) (a found : Admission) → Judged ws a found → judged_fault ws found ≡ or_else (words_fault ws) (admission_number a)
judged_fault_lem ws a found j = at found refl
  where
    -- a number that refuses, where the words have no fault of their own
    refuses : (n : ℕ) → (Words ws → n ≡ admission_number a) → or_else (words_fault ws) n ≡ or_else (words_fault ws) (admission_number a)
    refuses n h = by (eqb (words_fault ws) 0) refl
      where
        by : (t : Bool) → eqb (words_fault ws) 0 ≡ t → cond t n (words_fault ws) ≡ cond t (admission_number a) (words_fault ws)
        by true q = h (each_word ws (eqb-true _ _ q))
        by false q = refl

    at : (f : Admission) → found ≡ f → judged_fault ws f ≡ or_else (words_fault ws) (admission_number a)
    at (Ok _) e = let w = j.words e in pass refl (all_words ws w) (ap admission_number (sym e ∙ j.same w))
    at (Err refused) e = refuses (admission_number (Err refused)) (λ w. ap admission_number (sym e ∙ j.same w))

-- the row of a formula's code, and the front of a record's checks by that row
pub record Front (code : ℕ) (r : Row) (b : List ℕ) (seen count next f : ℕ) : Type 0 where
  pub row : r ≡ row_of code
  pub class : (row_of code).class ≡ FormulaRecord
  pub short : length b ≤ 120
  pub fault : f ≡ front_fault r b seen count next

-- a fault in the front is the record's
pub front_stops : {code : ℕ} {r : Row} {b : List ℕ} {seen count next f : ℕ} (s : ℕ) → Front code r b seen count next f → (f ≡ 0 → ⊥) → f ≡ formula_fault s (row_of code) b seen count next
front_stops {r = r} {b = b} {seen = seen} {count = count} {next = next} s h n = rw (← h.row) (stop _ h.fault n ∙ front_first s r b seen count next)

-- past the front
module _ {code : ℕ} {r : Row} {b : List ℕ} {seen count next : ℕ} (h : Front code r b seen count next 0) where
  abbrev shape : Shape
  shape = shape_of r b

  none : front_fault r b seen count next ≡ 0
  none = sym h.fault

  -- the record is complete, by its exact length
  pub whole : Complete r b
  unfolding front_fault
  whole = complete r b (rw h.row (ruled code)) (rw h.row h.class) h.short (laid r b (neither (length_fault r b) _ none).0)

  own_none : own_fault r shape (lo_of b) (hi_of b) ≡ 0
  unfolding front_fault
  own_none = (neither (order_fault seen count next (formula_number b)) _ (neither (length_fault r b) _ none).1).1

  -- its ends are two words, so that A is a word's size
  pub most_size : most_of (lo_of b) (hi_of b) ≤ 2147483647
  unfolding own_fault interval_fault
  most_size =
      let l = neither (word_fault (lo_of b)) _ (neither (interval_fault (lo_of b) (hi_of b)) _ own_none).0 in
      most_word (lo_of b) (hi_of b) (word (lo_of b) l.0) (word (hi_of b) (neither (word_fault (hi_of b)) _ l.1).0)

  -- its words are as many as its kind and counts ask for, and these are in their ranges
  pub words_are : (ws : List (List ℕ)) → values ws ≡ words_of r b → WordsOf shape ws
  unfolding shape_of own_fault
  words_are ws e =
      let u = whole in
      let m = neither (outside r.mode shape.mode 6) _ (neither (interval_fault (lo_of b) (hi_of b)) _ own_none).1 in (
        sym (length-values ws) ∙ ap length e ∙ length-words b r.head (word_count shape.kind shape.p shape.q),
        u.ruled.kind u.class shape.p shape.q shape.mode u.laid.p u.laid.q (inside r.mode shape.mode 6 (λ z. omega arith) m.0),
      )

  -- a blank one is refused by 14, or for its words
  pub blank_stops : (s : ℕ) {g : ℕ} → g ≡ or_else (words_fault (words_of r b)) 14 → blank_of shape (words_of r b) ≡ true → g ≡ formula_fault s (row_of code) b seen count next
  blank_stops s e t = rw (← h.row) (pass h.fault refl (e ∙ rest) ∙ front_first s r b seen count next)
    where
      rest : or_else (words_fault (words_of r b)) 14 ≡ from_words s r b
      rest = rw t refl

  -- the fault of another is by what the kind's own admission has found over its words
  pub front_passes : (s : ℕ) {g : ℕ} (found : Admission) → blank_of shape (words_of r b) ≡ false → g ≡ judged_fault (words_of r b) found
      → Judged (words_of r b) (admission_of s shape (lo_of b) (hi_of b) (words_of r b)) found → g ≡ formula_fault s (row_of code) b seen count next
  front_passes s {g} found t e j = rw (← h.row) (pass h.fault refl (e ∙ rest) ∙ front_first s r b seen count next)
    where
      rest : judged_fault (words_of r b) found ≡ from_words s r b
      rest = rw t (judged_fault_lem (words_of r b) (admission_of s shape (lo_of b) (hi_of b) (words_of r b)) found j)
