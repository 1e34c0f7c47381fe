-- Demand 3, the distance, for a sound formula of n + 1 coefficients. Of a polynomial: twice the answer's distance from the exact value, both times 2^(s·n), is
-- at most the sum of |x|^j·2^(s(n-j)) over j below n. Of an even one the same with the rounded square for x. Of an odd one, times 2^(s(n+1)): at most |x| times
-- that sum, and 2^(s(n+1)), which is the half.
use Rattle.whole.proofs.Basics.{List, ℕ, suc, ◌*◌, ◌^◌, ◌≤◌, take, ℤ, pos, nat_abs, ◌-ℤ◌, ◌*ℤ◌}
use lib.Seq.{length-take-le}
use Rattle.polynomial.specs.Distance.{exact_sum, spread_sum}
use Rattle.polynomial.proofs.Distance.{distance_written_out}
use Rattle.odd_even.specs.OddEven.{square_of}
use Rattle.odd_even.specs.Distance.{odd_exact_sum, odd_spread_sum}
use Rattle.odd_even.proofs.Distance as odd_even
use Rattle.formula.specs.Formula.{answer_of, Sound}
use Rattle.formula.specs.declared.Kind.{Kind}
use Rattle.formula.specs.declared.Kind.TheVariants.{Polynomial, Odd, Even}
use Rattle.formula.specs.declared.Shape.{Shape}

-- n + 1 coefficients of a kind
abbrev pub of_degree : Kind → ℕ → ℕ → ℕ → Shape
of_degree k n q mode = record { kind = k; p = suc n; q = q; mode = mode }

module _ (s n q mode : ℕ) (lo hi : ℤ) (ws : List ℤ) (x : ℤ) where
  abbrev terms : List ℤ
  terms = take (suc n) ws

  pub polynomial_distance : Sound (of_degree Polynomial n q mode) lo hi ws → 2 * nat_abs (answer_of s (of_degree Polynomial n q mode) ws x *ℤ pos (2 ^ (s * n)) -ℤ exact_sum s terms n x) ≤ spread_sum s n x
  polynomial_distance sound = distance_written_out s terms n x (length-take-le (suc n) ws sound.room)

  pub even_distance : Sound (of_degree Even n q mode) lo hi ws → 2 * nat_abs (answer_of s (of_degree Even n q mode) ws x *ℤ pos (2 ^ (s * n)) -ℤ exact_sum s terms n (square_of s x)) ≤ spread_sum s n (square_of s x)
  even_distance sound = odd_even.even_distance s terms n x (length-take-le (suc n) ws sound.room)

  pub odd_distance : Sound (of_degree Odd n q mode) lo hi ws → 2 * nat_abs (answer_of s (of_degree Odd n q mode) ws x *ℤ pos (2 ^ (s * suc n)) -ℤ odd_exact_sum s terms n x) ≤ odd_spread_sum s n x
  odd_distance sound = odd_even.odd_distance s terms n x (length-take-le (suc n) ws sound.room)
