-- A formula record without fault: it is complete, its formula has the words that stand in it, and is sound, not blank and admitted.
use Rattle.whole.proofs.Basics.{◌≡◌, sym, subst, false, List, ℕ, take, ℤ}
use Rattle.stored.proofs.WordsLaws.{length-words}
use Rattle.formula.specs.Formula.{word_count, Sound, admission_of}
use Rattle.formula.specs.Blank.{blank_of}
use Rattle.table.specs.declared.Class.TheVariants.{FormulaRecord}
use Rattle.table.specs.declared.Row.{Row}
use Rattle.table.proofs.Rule.{ruled}
use Rattle.layout.specs.Fields.{code_of, row_for, lo_of, hi_of, shape_of, words_of, padded, formula_of, Complete, words_in}
use Rattle.layout.proofs.Complete.{complete}
use Rattle.layout.proofs.Padded.{take-padded}
use Rattle.faults.proofs.Lengths.{laid}
use Rattle.records.specs.Sheets.{RecordOf, FormulaBytes}
use Rattle.records.proofs.Soundness.{not_blank, admitted, sound_record}
use Rattle.sheet.specs.Reader.{formula_in, Fit}
use Rattle.admission.specs.Admission.{granted}

pub complete_record : (b : List ℕ) → RecordOf FormulaRecord b → Complete (row_for b) b
complete_record b r = complete (row_for b) b (ruled (code_of b)) r.class r.most (laid (row_for b) b r.exact)

-- without the zeros that stand behind them in the array
pub words_in_lem : (r : Row) (b : List ℕ) → words_in (formula_of r b) ≡ words_of r b
unfolding formula_of
words_in_lem r b =
    let ws = words_of r b in
    subst (λ (n : ℕ). take n (padded ws) ≡ ws) (length-words b r.head (word_count (shape_of r b).kind (shape_of r b).p (shape_of r b).q)) (take-padded ws)

pub fit : (s : ℕ) (b : List ℕ) → FormulaBytes s b → Fit s (formula_in b)
unfolding formula_of
fit s b f =
    let r = row_for b in
    let h = shape_of r b in
    let e = sym (words_in_lem r b) in
    record {
      sound = subst (λ (ws : List ℤ). Sound h (lo_of b) (hi_of b) ws) e (sound_record s r b (complete_record b f.one) f.inner);
      not_blank = subst (λ (ws : List ℤ). blank_of h ws ≡ false) e (not_blank s r h (lo_of b) (hi_of b) (words_of r b) f.inner);
      admitted = subst (λ (ws : List ℤ). admission_of s h (lo_of b) (hi_of b) ws ≡ granted) e (admitted s r h (lo_of b) (hi_of b) (words_of r b) f.inner);
    }
