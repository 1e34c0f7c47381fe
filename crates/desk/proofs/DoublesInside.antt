-- Demand 3 for doubles: what the door gives for a double is what evaluation gives for the word that it rounds to, rounded where the double is
-- not that word, or 13 or 10; and the interval is given as the formula's two ends.
use Rattle.whole.proofs.Basics.{◌≡◌, ◌∙◌, sym, ap, subst, Bool, ◌⊎◌, List, ℕ, ℤ, ◌≤ℤ◌, ◌<ℤ◌}
use mathlib.Core.Bool.{◌&&◌}
use lib.Ieee.{Float}
use Rattle.formula.specs.declared.Formula.{Formula}
use Rattle.formula.specs.Formula.{answer_of, steps_by}
use Rattle.formula.specs.Exact.{exact_of}
use Rattle.door.specs.Exact.{Exactly}
use Rattle.door.specs.Taken.{taken_of, took}
use Rattle.layout.specs.Fields.{words_in}
use Rattle.sheet.specs.Reader.{formula_read, HasFormula, Reading}
use Rattle.sheet.proofs.FormulasGiven.{given_found}
use Rattle.answering.specs.Answering.{refused, with_mark, answer_at, Evaluation}
use Rattle.answering.proofs.MarkLaws.{marked_number, marked_place}
use Rattle.board.specs.Board.{evaluated}
use Rattle.board.proofs.AnswersInside.{formula_given, by_formula, refuses_outside, answers_inside}
use Rattle.desk.specs.Desk.{shown_value, shown_steps, shown_exact, interval_low, interval_high, taken_by, evaluated_double, ShownAs, IntervalAs, Interval, Showing}
use Rattle.desk.proofs.SameNumbers.{shown_number_lem, shown_value_lem, interval_ends}
use Rattle.refusal.specs.declared.Fault.TheVariants.{Outside, NotFinite}
use Rattle.refusal.specs.Guard.{refused_number, refused_place}
use Rattle.std.specs.Prelude.{Err}

-- the formula n of an accepted sheet that has it
module _ (s : ℕ) (bytes : List ℕ) (n : ℕ) (given : HasFormula s bytes n) where
  abbrev f : Formula
  f = formula_given s bytes n

  -- ---- the door: what it gives for a double, which is refused by 13 or 10, or answers as the word that it rounds to
  module _ (d : Float) (y : Showing) (shown : ShownAs s (evaluated_double s bytes n d) y) where
    door_gives : (e : Evaluation) → taken_by s f (taken_of s d) ≡ e → ShownAs s e y
    door_gives e q = subst (λ (x : Evaluation). ShownAs s x y) (by_formula s bytes n given (taken_by s f (taken_of s d)) ∙ q) shown

    pub double_not_finite : taken_of s d ≡ (Err NotFinite) → (refused_number y ≡ 13) × (refused_place y ≡ 0)
    double_not_finite e = shown_number_lem s (refused 13) y (door_gives (refused 13) (ap (taken_by s f) e))

    pub double_no_word : taken_of s d ≡ (Err Outside) → (refused_number y ≡ 10) × (refused_place y ≡ 0)
    double_no_word e = shown_number_lem s (refused 10) y (door_gives (refused 10) (ap (taken_by s f) e))

    -- `mark` says whether the word is the double itself
    module _ (w : ℤ) (mark : Bool) (e : taken_of s d ≡ took w mark) where
      pub double_as_word : ShownAs s (with_mark mark (evaluated s bytes n w)) y
      double_as_word = door_gives (with_mark mark (evaluated s bytes n w)) (ap (taken_by s f) e ∙ sym (ap (with_mark mark) (by_formula s bytes n given (answer_at s f w))))

      pub double_outside : (w <ℤ f.lo) ⊎ (f.hi <ℤ w) → (refused_number y ≡ 10) × (refused_place y ≡ 0)
      double_outside h =
          let i = evaluated s bytes n w in
          let p = shown_number_lem s (with_mark mark i) y double_as_word in
          let q = refuses_outside s bytes n given w h in
          (p.0 ∙ marked_number mark i ∙ q.0, p.1 ∙ marked_place mark i ∙ q.1)

      pub double_inside : f.lo ≤ℤ w → w ≤ℤ f.hi → (refused_number y ≡ 0) × (refused_place y ≡ 0) × Exactly s (answer_of s f.shape (words_in f) w) (shown_value y) × (shown_steps y ≡ steps_by f.shape.kind s w) × (shown_exact y ≡ (mark && exact_of s f.shape (words_in f) w))
      double_inside l h =
          let shape = f.shape in
          shown_value_lem s (answer_of s shape (words_in f) w) (steps_by shape.kind s w) (mark && exact_of s shape (words_in f) w) y
          (subst (λ (x : Evaluation). ShownAs s (with_mark mark x) y) (answers_inside s bytes n given w l h) double_as_word)

  -- ---- the interval that is given
  pub interval_given : (i : Interval) → IntervalAs s (formula_read s bytes n) i → (refused_number i ≡ 0) × (refused_place i ≡ 0) × Exactly s f.lo (interval_low i) × Exactly s f.hi (interval_high i)
  interval_given i p = interval_ends s f i (subst (λ (a : Reading). IntervalAs s a i) (given_found s bytes n given) p)
