-- The number of binary digits: 2 to its power is above v and not above 2v + 1, which determines it.
use Rattle.whole.proofs.Basics.{◌≡◌, ℕ, suc, zero, ◌+◌, ◌*◌, ◌/◌, ◌^◌, ◌≤◌, ◌<◌, arith}
use native.Mathlib.Nat.{pow-succ', pow-zero}
use native.Mathlib.Decide.{dec_le}
use lib.Pow.{pow_mono}
use Rattle.root.specs.Heron.{digits_in, digits}

pub record DigitsOf (v m : ℕ) : Type 0 where
  pub below : v < 2 ^ m
  pub least : 2 ^ m ≤ 2 * v + 1

least_next : (m d v : ℕ) → 2 ^ m ≤ 2 * d + 1 → 2 * d ≤ v → 0 < v → 2 * 2 ^ m ≤ 2 * v + 1
least_next zero d v f g h = omega (arith, pow-zero 2)
least_next (suc m) d v f g h = omega (arith, pow-succ' 2 m)

digits_in_lem : (k v : ℕ) → v ≤ k → DigitsOf v (digits_in k v)
unfolding digits_in
digits_in_lem zero v h = record { below = omega (arith, pow-zero 2); least = omega (arith, pow-zero 2) }
digits_in_lem (suc k) zero h = record { below = omega (arith, pow-zero 2); least = omega (arith, pow-zero 2) }
digits_in_lem (suc k) (suc n) h =
    let d = suc n / 2 in
    let r = digits_in_lem k d (omega arith) in
    let p = pow-succ' 2 (digits_in k d) in
    record { below = omega (arith, r.below); least = omega (arith, least_next (digits_in k d) d (suc n) r.least (omega arith) (omega arith)) }

pub digits_of : (v : ℕ) → DigitsOf v (digits v)
digits_of v = digits_in_lem v v (omega arith)

not_less : (v m n : ℕ) → v < 2 ^ m → 2 ^ n ≤ 2 * v + 1 → n ≤ m
not_less v m n f g = by (dec_le (suc m) n)
  where
    by : Dec (suc m ≤ n) → n ≤ m
    by (yes l) = absurd (omega (arith, pow_mono {i = suc m} {j = n} l, pow-succ' 2 m))
    by (no l) = omega arith

pub digits_one : (v m n : ℕ) → DigitsOf v m → DigitsOf v n → m ≡ n
digits_one v m n f g = omega (arith, not_less v m n f.below g.least, not_less v n m g.below f.least)

pub digits_most : (v k : ℕ) → v < 2 ^ k → digits v ≤ k
digits_most v k h = not_less v k (digits v) h (digits_of v).least
