-- What the functions ask of their callers.
use Rattle.std.specs.Prelude.{◌≡◌, List, ℕ, ◌+◌, ◌<◌, ◌≤◌, ℤ, nat_abs, length}
use Rattle.word.specs.Words.{Word, NotZero, Scale, product_of, quotient_of}
use Rattle.word.specs.Lists.{All, Words}
use Rattle.fraction.specs.Fraction.{next_of, outward_numbers, outward_divisors}
use Rattle.fraction.specs.Admission.{fraction_admission}
use Rattle.admission.specs.Admission.{granted}

-- one step: its operands and all that it forms are words, and t is not 0
pub record StepReady (s : ℕ) (a b v t : ℤ) : Type 0 where
  pub scale : Scale s
  pub a_word : Word a
  pub b_word : Word b
  pub v_word : Word v
  pub t_word : Word t
  pub t_apart : NotZero t
  pub term : Word (product_of s a v)
  pub ratio : Word (quotient_of s (product_of s a v) t)
  pub sum : Word (next_of s a b v t)

-- the walk from t at depth j
pub record OutwardReady (s : ℕ) (first rest : ℤ) (ws : List ℤ) (j : ℕ) (t : ℤ) : Type 0 where
  pub scale : Scale s
  pub words : Words ws
  pub room : j + j ≤ length ws
  pub first_word : Word first
  pub rest_word : Word rest
  pub t_word : Word t
  pub numbers : All Word (outward_numbers s first rest ws j t)
  pub divisors : All NotZero (outward_divisors s first rest ws j t)

-- the whole fraction: admitted at some A not below |x|
pub record FractionReady (s mode : ℕ) (ws : List ℤ) (k : ℕ) (x : ℤ) : Type 0 where
  pub scale : Scale s
  pub words : Words ws
  pub room : k + k < length ws
  pub x_word : Word x
  pub most : ℕ
  pub within : nat_abs x ≤ most
  pub admitted : fraction_admission s most mode ws k ≡ granted
