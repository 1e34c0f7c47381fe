-- Demand 3 for polynomials: of an admitted one, at every argument of the interval, each number on the way is a word.
use Rattle.whole.proofs.Basics.{◌≡◌, List, [], ◌∷◌, ℕ, suc, ◌≤◌, arith, ℤ, nat_abs}
use Rattle.word.specs.Words.{Word}
use Rattle.word.specs.Lists.{All}
use Rattle.polynomial.specs.Polynomial.{bound, bound_of, polynomial_numbers, polynomial_admission, InRange}
use Rattle.polynomial.proofs.WalkLaws.{running_size, product_bound}
use Rattle.polynomial.proofs.BoundLaws.{within_range, within_out}
use Rattle.admission.specs.Admission.{granted}

pub numbers_in_range : (s A : ℕ) (ws : List ℤ) (x : ℤ) → nat_abs x ≤ A → InRange s A ws → All Word (polynomial_numbers s ws x)
unfolding polynomial_numbers bound
numbers_in_range s A [] x h f = tt
numbers_in_range s A (c ∷ cs) x h f = (
  omega (arith, product_bound s A cs x h, f 0),
  (
    omega (arith, running_size s A (c ∷ cs) x h, f 0),
    numbers_in_range s A cs x h (λ k. f (suc k)),
  ),
)

pub polynomial_in_range : (s A : ℕ) (ws : List ℤ) → polynomial_admission s A ws ≡ granted → InRange s A ws
polynomial_in_range s A ws e = let q = within_out (bound_of s A ws) (λ b. granted) e in within_range s A ws q.0 q.1

pub polynomial_stays : (s A : ℕ) (ws : List ℤ) (x : ℤ) → nat_abs x ≤ A → polynomial_admission s A ws ≡ granted → All Word (polynomial_numbers s ws x)
polynomial_stays s A ws x h e = numbers_in_range s A ws x h (polynomial_in_range s A ws e)
