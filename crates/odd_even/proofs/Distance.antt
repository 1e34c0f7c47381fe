-- Demand 3, the distance. An even answer lies within half of 1 + |q| + .. + |q|^(n-1) steps of the polynomial's exact value at the rounded
-- square q; an odd one within |x| times that, plus one half, of x times that exact value, q and x in ones. An even answer is the polynomial's
-- at q, so its law is the polynomial's; the last product is one step more of the same walk.
use Rattle.whole.proofs.Basics.{◌≡◌, List, ℕ, suc, ◌*◌, ◌^◌, ◌≤◌, length, ℤ, pos, nat_abs, ◌-ℤ◌, ◌*ℤ◌}
use lib.IntN.{+ℤ_idl, zero-*ℤ}
use Rattle.word.specs.Words.{unit}
use Rattle.polynomial.specs.Distance.{exact_sum, spread_sum}
use Rattle.polynomial.proofs.SumLaws.{unit_pow}
use Rattle.polynomial.proofs.Distance.{step_near, distance_written_out}
use Rattle.odd_even.specs.OddEven.{square_of, even_of, odd_of}
use Rattle.odd_even.specs.Distance.{odd_exact_sum, odd_spread_sum}

pub even_distance : (s : ℕ) (ws : List ℤ) (n : ℕ) (x : ℤ) → length ws ≡ suc n → 2 * nat_abs (even_of s ws x *ℤ pos (2 ^ (s * n)) -ℤ exact_sum s ws n (square_of s x)) ≤ spread_sum s n (square_of s x)
even_distance s ws n x e = distance_written_out s ws n (square_of s x) e

pub odd_distance : (s : ℕ) (ws : List ℤ) (n : ℕ) (x : ℤ) → length ws ≡ suc n → 2 * nat_abs (odd_of s ws x *ℤ pos (2 ^ (s * suc n)) -ℤ odd_exact_sum s ws n x) ≤ odd_spread_sum s n x
odd_distance s ws n x e =
    let q = square_of s x in
    let near : 2 * nat_abs (even_of s ws x *ℤ pos (unit s ^ n) -ℤ exact_sum s ws n q) ≤ spread_sum s n q = rw (unit_pow s n) (even_distance s ws n x e) in
    let step = step_near s (pos 0) x (even_of s ws x) (exact_sum s ws n q) n (spread_sum s n q) near in
    rw (+ℤ_idl (odd_of s ws x), zero-*ℤ (pos (unit s ^ suc n)), +ℤ_idl (odd_exact_sum s ws n x), unit_pow s (suc n)) at step
