-- A refusal as it is told: the paper's number, and the place of the byte that it names.
use Rattle.std.specs.Prelude.{ℕ}

pub record Told : Type 0 where
  pub number : ℕ
  pub place : ℕ
