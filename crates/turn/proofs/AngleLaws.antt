-- Angles as whole numbers: the quarter and the rest of half a turn more and of half a turn minus an angle, and two ways to the same angle. All is linear, with
-- quotients and remainders by literals.
use Rattle.whole.proofs.Basics.{◌≡◌, ℕ, suc, zero, ◌+◌, ◌-◌, ◌%◌, ◌<◌, arith}
use Rattle.turn.specs.Angles.{half_turn, quarter_turn, Angle, angle_sum, angle_difference, quarter_of, rest_of}

-- what holds of four quarters holds of an angle's
among : (P : ℕ → Type 0) → P 0 → P 1 → P 2 → P 3 → (quarter : ℕ) → quarter < 4 → P quarter
among P a b c d zero h = a
among P a b c d (suc zero) h = b
among P a b c d (suc (suc zero)) h = c
among P a b c d (suc (suc (suc zero))) h = d
among P a b c d (suc (suc (suc (suc q)))) h = absurd (omega arith)

pub by_quarter : (P : ℕ → Type 0) → P 0 → P 1 → P 2 → P 3 → (a : ℕ) → Angle a → P (quarter_of a)
by_quarter P first second third fourth a h = among P first second third fourth (quarter_of a) (omega arith)

-- sums and differences are angles
pub sum_angle : (a b : ℕ) → Angle (angle_sum a b)
sum_angle a b = omega arith

pub difference_angle : (a b : ℕ) → Angle (angle_difference a b)
difference_angle a b = omega arith

module _ (a : ℕ) (h : Angle a) where
  -- two quarters on, and as far into it
  pub half_more_parts : (quarter_of (angle_sum a half_turn) ≡ (quarter_of a + 2) % 4) × (rest_of (angle_sum a half_turn) ≡ rest_of a)
  half_more_parts = (omega arith, omega arith)

  -- half a turn minus it: at the start of a quarter, and inside
  abbrev minus : ℕ
  minus = angle_difference half_turn a

  pub half_minus_start : rest_of a ≡ 0 → (quarter_of minus ≡ (6 - quarter_of a) % 4) × (rest_of minus ≡ 0)
  half_minus_start e = (omega arith, omega arith)

  pub half_minus_inside : 0 < rest_of a → (quarter_of minus ≡ (5 - quarter_of a) % 4) × (rest_of minus ≡ quarter_turn - rest_of a)
  half_minus_inside p = (omega arith, omega arith)

  -- the negated angle, and a quarter more than it
  pub negated_angle : angle_difference 0 a ≡ angle_sum minus half_turn
  negated_angle = omega arith

  pub negated_quarter : angle_sum (angle_difference 0 a) quarter_turn ≡ angle_difference half_turn (angle_sum a quarter_turn)
  negated_quarter = omega arith

  -- a half and a quarter in either order
  pub half_quarter : angle_sum (angle_sum a half_turn) quarter_turn ≡ angle_sum (angle_sum a quarter_turn) half_turn
  half_quarter = omega arith
