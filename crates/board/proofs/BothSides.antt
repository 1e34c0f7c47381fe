-- Promise: an odd formula of an accepted sheet answers at -x exactly the negated answer, with the same mark, and an even one the same, where both
-- arguments lie in its interval: there the sheet's answer is the formula's own.
use Rattle.whole.proofs.Basics.{◌≡◌, ◌∙◌, sym, ap, Bool, List, ℕ, ℤ, neg_ℤ, ◌≤ℤ◌}
use Rattle.formula.specs.declared.Formula.{Formula}
use Rattle.formula.specs.Parity.{OddFormula, EvenFormula}
use Rattle.formula.proofs.BothSides.{formula_negated, formula_same, odd_no_steps, even_no_steps, formula_mark_negated, formula_mark_same}
use Rattle.layout.specs.Fields.{words_in}
use Rattle.sheet.specs.Reader.{HasFormula}
use Rattle.answering.specs.Answering.{answered, evaluation_word, evaluation_exact, Evaluation}
use Rattle.board.specs.Board.{evaluated}
use Rattle.board.proofs.AnswersInside.{formula_given, answers_inside}

same_answered : {w z : ℤ} {j k : ℕ} {t u : Bool} → w ≡ z → j ≡ k → t ≡ u → answered w j t ≡ answered z k u
same_answered e f g = λ i. answered (e i) (f i) (g i)

-- the formula n of an accepted sheet that has it
module _ (s : ℕ) (bytes : List ℕ) (n : ℕ) (given : HasFormula s bytes n) where
  abbrev f : Formula
  f = formula_given s bytes n

  -- at x and -x, both in its interval
  module _ (x : ℤ) (l : f.lo ≤ℤ x) (h : x ≤ℤ f.hi) (l' : f.lo ≤ℤ neg_ℤ x) (h' : neg_ℤ x ≤ℤ f.hi) where
    pub sheet_negated : OddFormula f.shape (words_in f) → evaluated s bytes n (neg_ℤ x) ≡ answered (neg_ℤ (evaluation_word (evaluated s bytes n x))) 0 (evaluation_exact (evaluated s bytes n x))
    sheet_negated o =
        let shape = f.shape in
        answers_inside s bytes n given (neg_ℤ x) l' h'
        ∙ same_answered (formula_negated s shape (words_in f) x o) (odd_no_steps s shape (words_in f) (neg_ℤ x) o) (formula_mark_negated s shape (words_in f) x o)
        ∙ ap (λ (e : Evaluation). answered (neg_ℤ (evaluation_word e)) 0 (evaluation_exact e)) (sym (answers_inside s bytes n given x l h))

    pub sheet_same : EvenFormula f.shape (words_in f) → evaluated s bytes n (neg_ℤ x) ≡ evaluated s bytes n x
    sheet_same e =
        let shape = f.shape in
        answers_inside s bytes n given (neg_ℤ x) l' h'
        ∙ same_answered (formula_same s shape (words_in f) x e) (even_no_steps s shape (words_in f) (neg_ℤ x) e ∙ sym (even_no_steps s shape (words_in f) x e)) (formula_mark_same s shape (words_in f) x e)
        ∙ sym (answers_inside s bytes n given x l h)
