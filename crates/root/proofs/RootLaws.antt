-- The laws of the root: its two inequalities, which each digit of the definition keeps, that they determine it, that it is the largest, and when it is
-- exact.
use Rattle.whole.proofs.Basics.{◌≡◌, ◌∙◌, refl, sym, ap, Bool, true, false, cond, ℕ, suc, zero, ◌+◌, ◌*◌, ◌/◌, ◌^◌, ◌≤◌, ◌<◌, arith, leb, ℤ, nat_abs, eqb-true, eq-eqb}
use native.Mathlib.Nat.{mul-le-mul}
use native.Mathlib.Decide.{dec_le}
use borrow.Author.Tests.{leb-true, leb-false}
use Rattle.word.specs.Words.{Word, unit}
use Rattle.root.specs.Root.{RootOf, root_in, root_of, Rootable, root_word, exact_root}
use Rattle.word.proofs.WordLaws.{scaled_most}

pub square_lt : (a b : ℕ) → a * a < b * b → a < b
square_lt a b h = by (dec_le b a)
  where
    by : Dec (b ≤ a) → a < b
    by (yes f) = absurd (omega (arith, mul-le-mul f f))
    by (no f) = omega arith

pub root_one : (v r q : ℕ) → RootOf v r → RootOf v q → r ≡ q
root_one v r q f g = omega (arith, square_lt r (q + 1) (omega (arith, f.low, g.high)), square_lt q (r + 1) (omega (arith, g.low, f.high)))

digit_is : (b : Bool) (v r d : ℕ) → leb ((r + r + 1) * (r + r + 1)) v ≡ b → 4 * d ≤ v → v < 4 * d + 4 → RootOf d r → RootOf v (cond b (r + r + 1) (r + r))
digit_is true v r d e f g h = record { low = leb-true ((r + r + 1) * (r + r + 1)) v e; high = omega (arith, h.high) }
digit_is false v r d e f g h = record { low = omega (arith, h.low); high = leb-false ((r + r + 1) * (r + r + 1)) v e }

root_in_lem : (k v : ℕ) → v ≤ k → RootOf v (root_in k v)
unfolding root_in
root_in_lem zero v h = let e : v ≡ 0 = omega arith in record { low = omega arith; high = omega arith }
root_in_lem (suc k) zero h = record { low = omega arith; high = omega arith }
root_in_lem (suc k) (suc n) h = digit_is (leb ((root_in k (suc n / 4) + root_in k (suc n / 4) + 1) * (root_in k (suc n / 4) + root_in k (suc n / 4) + 1)) (suc n)) (suc n) (root_in k (suc n / 4)) (suc n / 4) refl (omega arith) (omega arith) (root_in_lem k (suc n / 4) (omega arith))

pub root_of_lem : (v : ℕ) → RootOf v (root_of v)
root_of_lem v = root_in_lem v v (omega arith)

pub root_is : (v r : ℕ) → r * r ≤ v → v < (r + 1) * (r + 1) → r ≡ root_of v
root_is v r f g = root_one v r (root_of v) (record { low = f; high = g }) (root_of_lem v)

-- it is the largest
pub root_largest : (v q : ℕ) → q * q ≤ v → q ≤ root_of v
root_largest v q h = omega (arith, square_lt q (root_of v + 1) (omega (arith, (root_of_lem v).high)))

-- ---- of a word: what is under the root fits 60 binary digits, so the root is a word
pub root_most : (v : ℕ) → v < 2 ^ 60 → root_of v < 2 ^ 30
root_most v h = square_lt (root_of v) (2 ^ 30) (omega (arith, (root_of_lem v).low))

pub root_word_lem : (s : ℕ) (x : ℤ) → Rootable s x → Word (root_word s x)
root_word_lem s x r = omega (arith, root_most (nat_abs x * unit s) (scaled_most (nat_abs x) s (omega (arith, r.1)) r.0.most))

-- ---- exact: marked so, its square is the scaled word, and where a whole number's square is, it is marked so
pub root_exact : (s : ℕ) (x : ℤ) → exact_root s x ≡ true → root_of (nat_abs x * unit s) * root_of (nat_abs x * unit s) ≡ nat_abs x * unit s
root_exact s x e = let v = nat_abs x * unit s in eqb-true (root_of v * root_of v) v e

pub exact_root_lem : (s : ℕ) (x : ℤ) (r : ℕ) → r * r ≡ nat_abs x * unit s → exact_root s x ≡ true
exact_root_lem s x r e =
    let v = nat_abs x * unit s in
    let f : r ≡ root_of v = root_is v r (omega (arith, e)) (omega (arith, e)) in
    eq-eqb (root_of v * root_of v) v (ap (λ (k : ℕ). k * k) (sym f) ∙ e)
