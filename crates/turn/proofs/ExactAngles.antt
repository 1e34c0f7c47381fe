-- Promise: a sine or cosine that is marked exact, by any sheet, for any number and angle: its argument is the angle's own part of a quarter, f / 2^30, and
-- without its sign it is the formula's exact value there. A refusal has no mark; an answer's is that of the argument and that of the formula's own.
use Rattle.whole.proofs.Basics.{◌≡◌, ◌∙◌, sym, ap, subst, true, inl, inr, List, ℕ, ◌-◌, ◌^◌, ltb, ℤ, pos, ◌*ℤ◌}
use mathlib.Core.Bool.{false≢true}
use Rattle.std.proofs.Common.{pow_pos}
use Rattle.word.specs.Words.{with_sign}
use Rattle.word.proofs.SignLaws.{sign_twice}
use Rattle.word.proofs.ExactLaws.{rounded_divides, both}
use Rattle.formula.specs.declared.Formula.{Formula}
use Rattle.formula.specs.Formula.{answer_of}
use Rattle.formula.specs.Exact.{exact_of, ValueOf}
use Rattle.formula.proofs.ExactAnswer.{formula_exact}
use Rattle.layout.specs.Fields.{words_in}
use Rattle.sheet.proofs.FormulasGiven.{given_scale, given_fits}
use Rattle.answering.specs.Answering.{evaluation_word, evaluation_exact}
use Rattle.answering.proofs.IntervalLaws.{answerable}
use Rattle.board.proofs.AnswersInside.{formula_given}
use Rattle.turn.specs.Angles.{quarter_turn, angle_sum, quarter_of, rest_of, folded_in, argument_of, exact_argument}
use Rattle.turn.specs.Sine.{HasSine, sine_of, cosine_of}
use Rattle.turn.proofs.EveryAngle.{ThreeWays, three_ways, argument_above, argument_below, every_angle}

module _ (s : ℕ) (bytes : List ℕ) (n : ℕ) where
  abbrev f : Formula
  f = formula_given s bytes n

  -- the argument times 2^(30 - s) is the folded angle, so that in ones it is that / 2^30
  abbrev pub OwnPart : ℕ → Type 0
  OwnPart a = argument_of s a *ℤ pos (2 ^ (30 - s)) ≡ pos (folded_in (quarter_of a) (rest_of a))

  abbrev pub OwnValue : ℕ → ℤ → Type 0
  OwnValue a w = ValueOf s f.shape (words_in f) (argument_of s a) (with_sign (ltb 1 (quarter_of a)) w)

  by_sine : (a : ℕ) → HasSine s bytes n → evaluation_exact (sine_of s bytes n a) ≡ true → OwnPart a × OwnValue a (evaluation_word (sine_of s bytes n a))
  by_sine a has t =
      let x = argument_of s a in
      let sign = ltb 1 (quarter_of a) in
      let own = answer_of s f.shape (words_in f) x in
      let e = every_angle s bytes n has a in
      let b = both (exact_argument s a) (exact_of s f.shape (words_in f) x) (sym (ap evaluation_exact e) ∙ t) in
      let k = answerable s f x (argument_above s bytes n has a) (argument_below s bytes n has a) (given_scale s bytes n has.0) (given_fits s bytes n has.0).0 in
      let w : own ≡ with_sign sign (evaluation_word (sine_of s bytes n a)) = sym (ap (λ (z : ℤ). with_sign sign z) (ap evaluation_word e) ∙ sign_twice sign own) in
      (rounded_divides (pos (folded_in (quarter_of a) (rest_of a))) (2 ^ (30 - s)) (pow_pos (30 - s)) b.0, subst (ValueOf s f.shape (words_in f) x) w (formula_exact s f.shape (words_in f) x k b.1))

  pub sine_exact : (a : ℕ) → evaluation_exact (sine_of s bytes n a) ≡ true → OwnPart a × OwnValue a (evaluation_word (sine_of s bytes n a))
  sine_exact a t = at (three_ways s bytes n a)
    where
      at : ThreeWays s bytes n (sine_of s bytes n a) → OwnPart a × OwnValue a (evaluation_word (sine_of s bytes n a))
      at (inl (r, e, q)) = absurd (false≢true (sym (ap evaluation_exact q) ∙ t))
      at (inr (inl q)) = absurd (false≢true (sym (ap evaluation_exact q) ∙ t))
      at (inr (inr (has, q))) = by_sine a has t

  pub cosine_exact : (a : ℕ) → evaluation_exact (cosine_of s bytes n a) ≡ true → OwnPart (angle_sum a quarter_turn) × OwnValue (angle_sum a quarter_turn) (evaluation_word (cosine_of s bytes n a))
  cosine_exact a t = sine_exact (angle_sum a quarter_turn) t
