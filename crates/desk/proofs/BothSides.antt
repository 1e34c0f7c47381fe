-- Promise: through the door, an odd formula of an accepted sheet answers a negated double with exactly the negated answer and the same mark, and an even one
-- with the same, where the word that the double rounds to and its negation lie in the interval: a negated double is taken as the negated word.
use Rattle.whole.proofs.Basics.{◌≡◌, ◌∙◌, refl, sym, ap, ap₂, subst, Bool, List, ℕ, ℤ, neg_ℤ, ◌≤ℤ◌}
use mathlib.Core.Bool.{◌&&◌}
use lib.Ieee.{Float, neg}
use Rattle.formula.specs.declared.Formula.{Formula}
use Rattle.formula.specs.Parity.{OddFormula, EvenFormula}
use Rattle.door.specs.Exact.{Exactly}
use Rattle.door.specs.Taken.{taken_of, negated_taken, Taken, took}
use Rattle.door.proofs.BothSides.{taken_negated}
use Rattle.layout.specs.Fields.{words_in}
use Rattle.sheet.specs.Reader.{formula_read, HasFormula, Reading}
use Rattle.answering.specs.Answering.{answered, with_mark, answer_at, evaluation_word, evaluation_exact, Evaluation}
use Rattle.answering.proofs.MarkLaws.{marked_word, marked_mark}
use Rattle.board.specs.Board.{when_given, evaluated}
use Rattle.board.proofs.AnswersInside.{formula_given}
use Rattle.board.proofs.BothSides.{sheet_negated, sheet_same}
use Rattle.desk.specs.Desk.{shown_value, shown_steps, shown_exact, taken_by, evaluated_double, ShownAs, Showing}
use Rattle.desk.proofs.SameNumbers.{shown_value_lem}
use Rattle.refusal.specs.Guard.{refused_number, refused_place}
use Rattle.std.specs.Prelude.{Err, Ok}

past_reader : (t : Bool) (a : Reading) (e : Evaluation) → when_given a (with_mark t e) ≡ with_mark t (when_given a e)
past_reader t (Ok f) e = refl
past_reader t (Err r) e = refl

-- the formula n of a sheet, at a double that rounds to w; `mark` says whether it is w itself
module _ (s : ℕ) (bytes : List ℕ) (n : ℕ) (d : Float) (w : ℤ) (mark : Bool) (e : taken_of s d ≡ took w mark) where
  abbrev f : Formula
  f = formula_given s bytes n

  at_taken : (t : Taken) (z : ℤ) → t ≡ took z mark → when_given (formula_read s bytes n) (taken_by s f t) ≡ with_mark mark (evaluated s bytes n z)
  at_taken t z q = ap (λ (i : Taken). when_given (formula_read s bytes n) (taken_by s f i)) q ∙ past_reader mark (formula_read s bytes n) (answer_at s f z)

  as_word_lem : evaluated_double s bytes n d ≡ with_mark mark (evaluated s bytes n w)
  as_word_lem = at_taken (taken_of s d) w e

  as_negated_word : evaluated_double s bytes n (neg d) ≡ with_mark mark (evaluated s bytes n (neg_ℤ w))
  as_negated_word = at_taken (taken_of s (neg d)) (neg_ℤ w) (taken_negated s d ∙ ap negated_taken e)

  -- what the two have of an answer
  own_word : evaluation_word (evaluated_double s bytes n d) ≡ evaluation_word (evaluated s bytes n w)
  own_word = ap evaluation_word as_word_lem ∙ marked_word mark (evaluated s bytes n w)

  own_mark : evaluation_exact (evaluated_double s bytes n d) ≡ (mark && evaluation_exact (evaluated s bytes n w))
  own_mark = ap evaluation_exact as_word_lem ∙ marked_mark mark (evaluated s bytes n w)

  module _ (given : HasFormula s bytes n) (l : f.lo ≤ℤ w) (h : w ≤ℤ f.hi) (l' : f.lo ≤ℤ neg_ℤ w) (h' : neg_ℤ w ≤ℤ f.hi) where
    pub double_negated : OddFormula f.shape (words_in f) → evaluated_double s bytes n (neg d) ≡ answered (neg_ℤ (evaluation_word (evaluated_double s bytes n d))) 0 (evaluation_exact (evaluated_double s bytes n d))
    double_negated o =
        as_negated_word
        ∙ ap (with_mark mark) (sheet_negated s bytes n given w l h l' h' o)
        ∙ ap₂ (λ (z : ℤ) (t : Bool). answered (neg_ℤ z) 0 t) (sym own_word) (sym own_mark)

    -- by the double that is given: exactly the negated word
    pub shown_negated : OddFormula f.shape (words_in f) → (y : Showing) → ShownAs s (evaluated_double s bytes n (neg d)) y → (refused_number y ≡ 0) × (refused_place y ≡ 0) × Exactly s (neg_ℤ (evaluation_word (evaluated_double s bytes n d))) (shown_value y) × (shown_steps y ≡ 0) × (shown_exact y ≡ evaluation_exact (evaluated_double s bytes n d))
    shown_negated o y p =
        let i = evaluated_double s bytes n d in
        shown_value_lem s (neg_ℤ (evaluation_word i)) 0 (evaluation_exact i) y (subst (λ (j : Evaluation). ShownAs s j y) (double_negated o) p)

    pub double_same : EvenFormula f.shape (words_in f) → evaluated_double s bytes n (neg d) ≡ evaluated_double s bytes n d
    double_same o = as_negated_word ∙ ap (with_mark mark) (sheet_same s bytes n given w l h l' h' o) ∙ sym as_word_lem
