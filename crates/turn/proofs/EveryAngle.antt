-- Promise: by a sheet that has the sine every angle is answered: its argument lies in the interval, and the answer is the formula's own there, or the
-- negation of that, and a word, with no steps, and exact where the argument and the formula's own are. Any other
-- formula gives 15 to every angle. The reader's refusals come before both.
use Rattle.whole.proofs.Basics.{◌≡◌, ◌∙◌, refl, sym, ap, Bool, ◌⊎◌, inl, inr, List, ℕ, arith, ltb, ℤ, ◌≤ℤ◌}
use Rattle.std.proofs.Common.{◌&&◌}
use Rattle.whole.proofs.Order.{≤ℤ_trans}
use Rattle.word.specs.Words.{Word, with_sign}
use Rattle.word.proofs.SignLaws.{sign_abs}
use Rattle.formula.specs.declared.Formula.{Formula}
use Rattle.formula.specs.declared.Kind.{Kind}
use Rattle.formula.specs.Formula.{answer_of, steps_by}
use Rattle.formula.specs.Exact.{exact_of}
use Rattle.layout.specs.Fields.{words_in}
use Rattle.refusal.specs.declared.Refusal.{Refusal}
use Rattle.refusal.specs.Guard.{guard, refused_number}
use Rattle.sheet.specs.Reader.{formula_read, HasFormula, Reading}
use Rattle.sheet.proofs.FormulasGiven.{given_scale, given_fits}
use Rattle.answering.specs.Answering.{evaluation_word, refused, answered, with_mark, Evaluation}
use Rattle.answering.proofs.IntervalLaws.{answerable}
use Rattle.board.specs.Board.{when_given}
use Rattle.board.proofs.AnswersInside.{formula_given, by_formula, answers_inside, odd_word}
use Rattle.turn.specs.Angles.{quarter_turn, angle_sum, quarter_of, rest_of, argument_of, exact_argument}
use Rattle.turn.specs.Sine.{sine_fault, ForSine, HasSine, signed_in, plain_in, sine_by, sine_in, sine_of, cosine_of}
use Rattle.turn.proofs.ArgumentLaws.{rest_most, argument_low, argument_high}
use Rattle.turn.proofs.FaultLaws.{or_fifteen, sine_needs, sine_enough}
use Rattle.std.specs.Prelude.{Err, Ok}

module _ (s : ℕ) (bytes : List ℕ) (n : ℕ) where
  abbrev f : Formula
  f = formula_given s bytes n

  -- ---- the reader's refusals come first
  pub reader_first : (a : ℕ) (r : Refusal) → formula_read s bytes n ≡ Err r → sine_of s bytes n a ≡ Err r
  reader_first a r e = ap (λ (i : Reading). when_given i (sine_by s f (quarter_of a) (plain_in s bytes n (quarter_of a) (rest_of a)))) e

  -- ---- then 15, for every angle
  pub fifteen : HasFormula s bytes n → (ForSine s f → ⊥) → (a : ℕ) → sine_of s bytes n a ≡ refused 15
  fifteen given other a = by_formula s bytes n given _ ∙ at (or_fifteen s f)
    where
      at : (sine_fault s f ≡ 0) ⊎ (sine_fault s f ≡ 15) → sine_by s f (quarter_of a) (plain_in s bytes n (quarter_of a) (rest_of a)) ≡ refused 15
      at (inl z) = absurd (other (sine_needs s f z))
      at (inr z) = ap (λ (t : ℕ). guard t refused (signed_in (quarter_of a) (plain_in s bytes n (quarter_of a) (rest_of a)))) z

  -- ---- a sheet that has the sine, which every sheet does whose formula has no fault
  pub has_sine : HasFormula s bytes n → sine_fault s f ≡ 0 → HasSine s bytes n
  has_sine given none = (given, sine_needs s f none)

  module _ (has : HasSine s bytes n) where
    pub sine_given : (quarter rest : ℕ) → sine_in s bytes n quarter rest ≡ signed_in quarter (plain_in s bytes n quarter rest)
    sine_given quarter rest = by_formula s bytes n has.0 _ ∙ ap (λ (t : ℕ). guard t refused (signed_in quarter (plain_in s bytes n quarter rest))) (sine_enough s f has.1)

    module _ (a : ℕ) where
      abbrev x : ℤ
      x = argument_of s a

      abbrev own : ℤ
      own = answer_of s f.shape (words_in f) x

      pub argument_above : f.lo ≤ℤ x
      argument_above = ≤ℤ_trans has.1.low (argument_low s (quarter_of a) (rest_of a))

      pub argument_below : x ≤ℤ f.hi
      argument_below = ≤ℤ_trans (argument_high s (quarter_of a) (rest_of a) (given_scale s bytes n has.0) (rest_most a)) has.1.high

      -- and its mark
      abbrev mark : Bool
      mark = exact_of s f.shape (words_in f) x

      pub every_angle : sine_of s bytes n a ≡ answered (with_sign (ltb 1 (quarter_of a)) own) 0 (exact_argument s a && mark)
      every_angle =
          sine_given (quarter_of a) (rest_of a)
          ∙ ap (λ (e : Evaluation). signed_in (quarter_of a) (with_mark (exact_argument s a) e)) (answers_inside s bytes n has.0 x argument_above argument_below ∙ ap (λ (k : Kind). answered own (steps_by k s x) mark) has.1.odd)

      pub sine_word : Word (evaluation_word (sine_of s bytes n a))
      sine_word =
          let k = answerable s f x argument_above argument_below (given_scale s bytes n has.0) (given_fits s bytes n has.0).0 in
          rw every_angle (omega (arith, sign_abs (ltb 1 (quarter_of a)) own, odd_word s f x has.1.odd k))

    -- ---- and so of cosine
    module _ (a : ℕ) where
      abbrev later : ℕ
      later = angle_sum a quarter_turn

      pub every_cosine : cosine_of s bytes n a ≡ answered (with_sign (ltb 1 (quarter_of later)) (answer_of s f.shape (words_in f) (argument_of s later))) 0 (exact_argument s later && exact_of s f.shape (words_in f) (argument_of s later))
      every_cosine = every_angle later

      pub cosine_word : Word (evaluation_word (cosine_of s bytes n a))
      cosine_word = sine_word later

  -- ---- so a sine ends in one of three ways: with the reader's refusal, with 15, or, by a sheet that has it, with an answer that has no steps
  abbrev pub ThreeWays : Evaluation → Type 0
  ThreeWays e = ((r : Refusal) × (formula_read s bytes n ≡ Err r) × (e ≡ Err r)) ⊎ ((e ≡ refused 15) ⊎ (HasSine s bytes n × ((w : ℤ) × (t : Bool) × (e ≡ answered w 0 t))))

  pub three_ways : (a : ℕ) → ThreeWays (sine_of s bytes n a)
  three_ways a = at (formula_read s bytes n) refl (or_fifteen s f)
    where
      clash : ◌≡◌ {A = ℕ} 0 15 → ⊥
      clash e = omega arith

      at : (i : Reading) → formula_read s bytes n ≡ i → (sine_fault s f ≡ 0) ⊎ (sine_fault s f ≡ 15) → ThreeWays (sine_of s bytes n a)
      at (Err r) e k = inl (r, e, reader_first a r e)
      at (Ok g) e (inl z) = let has = has_sine (ap refused_number e) z in inr (inr (has, (_, _, every_angle has a)))
      at (Ok g) e (inr z) = inr (inl (fifteen (ap refused_number e) (λ k. clash (sym (sine_enough s f k) ∙ z)) a))
