-- Promise: which refusals sine and cosine can give, the reader's and 15, never 10; where there is none of them, there is an answer.
use Rattle.whole.proofs.Basics.{◌≡◌, ◌∙◌, sym, ap, subst, ◌⊎◌, inl, inr, List, ℕ, arith}
use Rattle.faults.specs.Refusals.{OneOf}
use Rattle.sheet.specs.Reader.{reader_refusals, formula_read, formula_given, Reading, Given}
use Rattle.sheet.proofs.WhichRefusals.{read_or_eleven}
use Rattle.board.proofs.WhichRefusals.{AnswerOr}
use Rattle.turn.specs.Angles.{quarter_turn, angle_sum}
use Rattle.turn.specs.Sine.{sine_refusals, sine_of, cosine_of}
use Rattle.turn.proofs.EveryAngle.{ThreeWays, three_ways}
use Rattle.refusal.specs.Guard.{refused_number}
use Rattle.std.specs.Prelude.{Err, Ok}

module _ (s : ℕ) (bytes : List ℕ) (n : ℕ) where
  pub sine_refusals_lem : (a : ℕ) → AnswerOr sine_refusals (sine_of s bytes n a)
  sine_refusals_lem a = at (three_ways s bytes n a) (read_or_eleven s bytes n)
    where
      at : ThreeWays s bytes n (sine_of s bytes n a) → Given (formula_read s bytes n) ⊎ OneOf reader_refusals (refused_number (formula_read s bytes n)) → AnswerOr sine_refusals (sine_of s bytes n a)
      at (inl (r, e, q)) (inl g) = let z : Err r ≡ Ok (formula_given (formula_read s bytes n)) = sym e ∙ g in absurd (let y : ◌≡◌ {A = ℕ} 0 1 = cc in omega arith)
      at (inl (r, e, q)) (inr h) = rw q (inr (inr (subst (λ (i : Reading). OneOf reader_refusals (refused_number i)) e h)))
      at (inr (inl q)) k = inr (inl (ap refused_number q))
      at (inr (inr (has, (w, t, q)))) k = inl (_, q)

  pub cosine_refusals : (a : ℕ) → AnswerOr sine_refusals (cosine_of s bytes n a)
  cosine_refusals a = sine_refusals_lem (angle_sum a quarter_turn)
