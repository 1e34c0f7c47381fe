-- Promise: sine and cosine tell no steps, by any sheet, for any number and angle: an odd formula has none, and a refusal tells none.
use Rattle.whole.proofs.Basics.{◌≡◌, ap, inl, inr, List, ℕ}
use Rattle.answering.specs.Answering.{evaluation_steps}
use Rattle.turn.specs.Angles.{quarter_turn, angle_sum}
use Rattle.turn.specs.Sine.{sine_of, cosine_of}
use Rattle.turn.proofs.EveryAngle.{ThreeWays, three_ways}

module _ (s : ℕ) (bytes : List ℕ) (n : ℕ) where
  pub sine_no_steps : (a : ℕ) → evaluation_steps (sine_of s bytes n a) ≡ 0
  sine_no_steps a = at (three_ways s bytes n a)
    where
      at : ThreeWays s bytes n (sine_of s bytes n a) → evaluation_steps (sine_of s bytes n a) ≡ 0
      at (inl (r, e, q)) = ap evaluation_steps q
      at (inr (inl q)) = ap evaluation_steps q
      at (inr (inr (has, (w, t, q)))) = ap evaluation_steps q

  pub cosine_no_steps : (a : ℕ) → evaluation_steps (cosine_of s bytes n a) ≡ 0
  cosine_no_steps a = sine_no_steps (angle_sum a quarter_turn)
