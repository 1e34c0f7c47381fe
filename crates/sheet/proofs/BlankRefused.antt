-- Promise: a blank record is refused. Behind a start and formula records of any numbers and values it is refused at its place, by 14 or by a number that comes
-- before it, or one of the records before it is refused. Behind a start and formulas without fault, with nothing else wrong with it, it is refused by 14 at
-- its place, whatever stands behind it; so it is in an otherwise accepted sheet.
use Rattle.whole.proofs.Basics.{◌≡◌, ap, subst, List, [], ◌∷◌, ◌++◌, ℕ, ◌+◌, ◌≤◌, arith, length, length-append}
use Rattle.word.specs.Words.{Scale}
use Rattle.table.specs.declared.Class.TheVariants.{StartRecord}
use Rattle.layout.specs.Fields.{row_for, count_of, formula_number, shape_of, lo_of, hi_of, words_of}
use Rattle.refusal.specs.Guard.{refusal}
use Rattle.faults.specs.Faults.{words_fault, own_fault}
use Rattle.refusal.specs.declared.Refusal.{Refusal}
use Rattle.records.specs.Sheets.{RecordOf, EachFormula, Rising, in_line, SheetOf}
use Rattle.walking.specs.BlankRecords.{BlankBytes, BlankBehind, BlankOrBefore, BlankNext}
use Rattle.walking.proofs.BlankMet.{blank_walked, fourteen_walked}
use Rattle.sheet.specs.Reader.{count_answer, formula_count}
use Rattle.sheet.proofs.Places.{around, each_before, rising_before}
use Rattle.std.specs.Prelude.{Err, None}

module _ (s : ℕ) (start rest : List ℕ) (o : RecordOf StartRecord start) where
  pub blank_refused : (h : BlankBehind rest) → (r : Refusal) × (formula_count s (start ++ rest) ≡ Err r) × BlankOrBefore 0 (start ∷ h.records) r
  unfolding formula_count
  blank_refused h =
      let m = blank_walked s start rest None o h in
      (m.0, ap count_answer m.1, m.2)

  pub fourteen : Scale s → 1 ≤ count_of start → count_of start ≤ 64 → (h : BlankNext s (count_of start) rest) → formula_count s (start ++ rest) ≡ Err (refusal (length start + length (in_line h.formulas)) 14)
  unfolding formula_count
  fourteen k l m h = ap count_answer (fourteen_walked s start rest None k o l m h)

-- ---- in a sheet that is accepted but for a blank record in place of one of its own, which has that one's number
module _ (s c : ℕ) (sheet : List ℕ) (h : SheetOf s c sheet) (xs : List (List ℕ)) (b : List ℕ) (ys : List (List ℕ)) (e : h.formulas ≡ xs ++ (b ∷ ys)) (blank : List ℕ) (is : BlankBytes blank) (number : formula_number blank ≡ formula_number b)
    (own : own_fault (row_for blank) (shape_of (row_for blank) blank) (lo_of blank) (hi_of blank) ≡ 0) (words : words_fault (words_of (row_for blank) blank) ≡ 0) where
  abbrev next : BlankNext s (count_of h.start) (in_line (xs ++ (blank ∷ ys)) ++ h.finish)
  next =
      let r = rising_before 0 xs b ys (subst (Rising 0) e h.rising) in
      record {
        formulas = xs;
        blank = blank;
        after = in_line ys ++ h.finish;
        whole = around [] xs blank ys h.finish;
        room = omega (arith, h.many, ap length e, length-append xs (b ∷ ys), h.opens.1);
        each = each_before s xs b ys (subst (EachFormula s) e h.each);
        rising = r.0;
        number = omega (arith, r.1, number);
        is = is;
        own = own;
        words = words;
      }

  pub otherwise_accepted : formula_count s (h.start ++ (in_line (xs ++ (blank ∷ ys)) ++ h.finish)) ≡ Err (refusal (length h.start + length (in_line xs)) 14)
  otherwise_accepted = fourteen s h.start _ h.opens.0 h.scale (omega (arith, h.opens.1, h.opens.2)) (omega (arith, h.opens.1, h.opens.3)) next
