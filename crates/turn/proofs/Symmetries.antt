-- Promise: half a turn more negates sine and cosine, half a turn minus an angle has the same sine, and the negated angle the negated sine and the same cosine,
-- on every sheet, refusals and marks too; sine of 0 is 0, marked exact, and sine of a quarter turn, which is cosine of 0, the board's answer at one.
-- Quarters 2 and 3 have the arguments of 0 and 1 and the other sign; half a turn minus an angle folds to the same argument, but for 0 and half a turn, where an odd formula's answer is its own negation.
use Rattle.whole.proofs.Basics.{◌≡◌, ◌∙◌, refl, sym, ap, ap₂, Bool, true, false, cond, ◌⊎◌, inl, inr, List, ℕ, ◌+◌, ◌-◌, ◌%◌, ◌^◌, ◌≤◌, arith, eqb, ℤ, pos, neg_ℤ}
use native.Mathlib.Decide.{dec_le}
use lib.IntN.{neg_ℤ-neg_ℤ}
use Rattle.std.proofs.Common.{pow_pos}
use Rattle.whole.proofs.Diff.{v, ⊖◌}
use Rattle.whole.proofs.Linear.{zarith}
use Rattle.whole.proofs.Order.{≤ℤ_trans, pos_le}
use Rattle.word.specs.Rounded.{rounded}
use Rattle.word.specs.Words.{unit}
use Rattle.word.proofs.RoundedLaws.{rounded_odd, rounded_exact}
use Rattle.word.proofs.ExactLaws.{multiple_divides}
use Rattle.word.proofs.LooseLaws.{whole_none}
use Rattle.formula.proofs.ExactAnswer.{odd_zero_exact}
use Rattle.layout.specs.Fields.{words_in}
use Rattle.refusal.specs.Guard.{guard, refused_number}
use Rattle.sheet.specs.Reader.{formula_read, Reading}
use Rattle.sheet.proofs.FormulasGiven.{given_scale}
use Rattle.answering.specs.Answering.{evaluation_word, evaluation_exact, refused, answered, with_mark, Evaluation}
use Rattle.answering.proofs.MarkLaws.{marked_exact}
use Rattle.board.specs.Board.{when_given, evaluated}
use Rattle.board.proofs.AnswersInside.{formula_given, answers_inside}
use Rattle.board.proofs.BothSides.{sheet_negated}
use Rattle.turn.specs.Angles.{half_turn, quarter_turn, Angle, angle_sum, angle_difference, quarter_of, rest_of, argument_in, exact_in}
use Rattle.turn.specs.Sine.{sine_fault, HasSine, signed_by, negated, plain_in, sine_in, sine_of, cosine_of}
use Rattle.turn.proofs.AngleLaws.{by_quarter, sum_angle, difference_angle, half_more_parts, half_minus_start, half_minus_inside, negated_angle, negated_quarter, half_quarter}
use Rattle.turn.proofs.ArgumentLaws.{quarter_is}
use Rattle.turn.proofs.FaultLaws.{or_fifteen}
use Rattle.turn.proofs.EveryAngle.{has_sine, sine_given}
use Rattle.std.specs.Prelude.{Err, Ok}

-- ---- negation: twice is none, and only 0 is its own
negated_back : (e : Evaluation) → negated (negated e) ≡ e
negated_back (Ok w) = ap (λ (z : ℤ). answered z w.steps w.exact) (neg_ℤ-neg_ℤ w.word)
negated_back (Err r) = refl

own_negation : (w : ℤ) → w ≡ neg_ℤ w → w ≡ pos 0
own_negation w e = omega (zarith, (⊖ v w).is)

-- it goes past refusals
past : (a : Reading) (fault : ℕ) (e : Evaluation) → when_given a (guard fault refused (negated e)) ≡ negated (when_given a (guard fault refused e))
past (Err r) fault e = refl
past (Ok f) fault e = at (eqb fault 0)
  where
    at : (t : Bool) → cond t (negated e) (refused fault) ≡ negated (cond t e (refused fault))
    at true = refl
    at false = refl

-- in quarters 0 and 1 an answer is as it is
plainly : (e : Evaluation) → signed_by false e ≡ e
plainly (Ok w) = refl
plainly (Err r) = refl

module _ (s : ℕ) (bytes : List ℕ) (n : ℕ) where
  abbrev found : Reading
  found = formula_read s bytes n

  abbrev fault : ℕ
  fault = sine_fault s (formula_given s bytes n)

  -- ---- a sheet that has the sine
  module _ (has : HasSine s bytes n) where
    zero_mark : evaluation_exact (evaluated s bytes n (pos 0)) ≡ true
    zero_mark =
        let k = has.1 in
        let f = formula_given s bytes n in
        let h = ≤ℤ_trans (pos_le {a = 0} {b = unit s} (omega arith)) k.high in
        ap evaluation_exact (answers_inside s bytes n has.0 (pos 0) k.low h) ∙ odd_zero_exact s f.shape (words_in f) k.odd

    zero_answer : evaluated s bytes n (pos 0) ≡ answered (pos 0) 0 true
    zero_answer =
        let k = has.1 in
        let h = ≤ℤ_trans (pos_le {a = 0} {b = unit s} (omega arith)) k.high in
        let e = sheet_negated s bytes n has.0 (pos 0) k.low h k.low h (rw k.odd tt) in
        let w = ap evaluation_word e in
        e ∙ ap₂ (λ (z : ℤ) (t : Bool). answered z 0 t) (sym w ∙ own_negation _ w) zero_mark

    -- an argument that is exact adds no rounding
    plain_exact : (quarter rest : ℕ) (x : ℤ) → exact_in s quarter rest ≡ true → argument_in s quarter rest ≡ x → plain_in s bytes n quarter rest ≡ evaluated s bytes n x
    plain_exact quarter rest x t e = ap₂ (λ (b : Bool) (z : ℤ). with_mark b (evaluated s bytes n z)) t e ∙ marked_exact (evaluated s bytes n x)

    pub sine_of_zero : sine_of s bytes n 0 ≡ answered (pos 0) 0 true
    sine_of_zero = sine_given s bytes n has 0 0 ∙ plainly (plain_in s bytes n 0 0) ∙ plain_exact 0 0 (pos 0) (whole_none (30 - s)) (own_negation _ (rounded_odd (pos 0) (2 ^ (30 - s)))) ∙ zero_answer

    -- a quarter turn is one
    quarter_exact : exact_in s 1 0 ≡ true
    quarter_exact = multiple_divides (2 ^ (30 - s)) (pos quarter_turn) (pos (unit s)) (ap pos (sym (quarter_is s (given_scale s bytes n has.0))))

    one_argument : argument_in s 1 0 ≡ pos (unit s)
    one_argument =
        ap (λ (k : ℕ). rounded (pos k) (2 ^ (30 - s))) (sym (quarter_is s (given_scale s bytes n has.0)))
        ∙ rounded_exact (pos (unit s)) (2 ^ (30 - s)) (pow_pos (30 - s))

    pub sine_of_quarter : sine_of s bytes n quarter_turn ≡ evaluated s bytes n (pos (unit s))
    sine_of_quarter = sine_given s bytes n has 1 0 ∙ plainly (plain_in s bytes n 1 0) ∙ plain_exact 1 0 (pos (unit s)) quarter_exact one_argument

    pub cosine_of_zero : cosine_of s bytes n 0 ≡ evaluated s bytes n (pos (unit s))
    cosine_of_zero = sine_of_quarter

  -- ---- half a turn more
  opposite : (e : Evaluation) → when_given found (guard fault refused (negated e)) ≡ negated (when_given found (guard fault refused (signed_by false e)))
  opposite e = past found fault e ∙ ap (λ (i : Evaluation). negated (when_given found (guard fault refused i))) (sym (plainly e))

  pub half_more : (a : ℕ) → Angle a → sine_of s bytes n (angle_sum a half_turn) ≡ negated (sine_of s bytes n a)
  half_more a h =
      let f = rest_of a in
      let p = half_more_parts a h in
      ap₂ (sine_in s bytes n) p.0 p.1
      ∙ by_quarter (λ (q : ℕ). sine_in s bytes n ((q + 2) % 4) f ≡ negated (sine_in s bytes n q f))
      (opposite (plain_in s bytes n 0 f)) (opposite (plain_in s bytes n 1 f)) (back (plain_in s bytes n 0 f)) (back (plain_in s bytes n 1 f)) a h
    where
      back : (e : Evaluation) → when_given found (guard fault refused (signed_by false e)) ≡ negated (when_given found (guard fault refused (negated e)))
      back e = sym (negated_back _) ∙ ap negated (sym (opposite e))

  -- ---- half a turn minus an angle. Of the quarters' starts only 0 and half a turn change places
  half_as_zero : sine_of s bytes n half_turn ≡ sine_of s bytes n 0
  half_as_zero = at found refl (or_fifteen s (formula_given s bytes n))
    where
      at : (a : Reading) → found ≡ a → (fault ≡ 0) ⊎ (fault ≡ 15) → sine_of s bytes n half_turn ≡ sine_of s bytes n 0
      at (Err r) e k = rw e
      at (Ok g) e (inl z) = let q = sine_of_zero (has_sine s bytes n (ap refused_number e) z) in half_more 0 (omega arith) ∙ ap negated q ∙ sym q
      at (Ok g) e (inr z) = rw (z, e)

  pub half_minus : (a : ℕ) → Angle a → sine_of s bytes n (angle_difference half_turn a) ≡ sine_of s bytes n a
  half_minus a h = at (dec_le (rest_of a) 0)
    where
      at : Dec (rest_of a ≤ 0) → sine_of s bytes n (angle_difference half_turn a) ≡ sine_of s bytes n a
      at (yes k) =
          let z : rest_of a ≡ 0 = omega arith in
          let p = half_minus_start a h z in
          ap₂ (sine_in s bytes n) p.0 p.1
          ∙ by_quarter (λ (q : ℕ). sine_in s bytes n ((6 - q) % 4) 0 ≡ sine_in s bytes n q 0) half_as_zero refl (sym half_as_zero) refl a h
          ∙ ap (sine_in s bytes n (quarter_of a)) (sym z)
      at (no k) =
          let f = rest_of a in
          let p = half_minus_inside a h (omega arith) in
          let back : quarter_turn - (quarter_turn - f) ≡ f = omega arith in
          ap₂ (sine_in s bytes n) p.0 p.1
          ∙ by_quarter (λ (q : ℕ). sine_in s bytes n ((5 - q) % 4) (quarter_turn - f) ≡ sine_in s bytes n q f) (rw back) refl (rw back) refl a h

  -- ---- by these two
  pub sine_negated : (a : ℕ) → Angle a → sine_of s bytes n (angle_difference 0 a) ≡ negated (sine_of s bytes n a)
  sine_negated a h =
      ap (sine_of s bytes n) (negated_angle a h)
      ∙ half_more (angle_difference half_turn a) (difference_angle half_turn a)
      ∙ ap negated (half_minus a h)

  pub cosine_same : (a : ℕ) → Angle a → cosine_of s bytes n (angle_difference 0 a) ≡ cosine_of s bytes n a
  cosine_same a h = ap (sine_of s bytes n) (negated_quarter a h) ∙ half_minus (angle_sum a quarter_turn) (sum_angle a quarter_turn)

  pub cosine_half_more : (a : ℕ) → Angle a → cosine_of s bytes n (angle_sum a half_turn) ≡ negated (cosine_of s bytes n a)
  cosine_half_more a h = ap (sine_of s bytes n) (half_quarter a h) ∙ half_more (angle_sum a quarter_turn) (sum_angle a quarter_turn)
