-- Promise: Heron's rule takes at most 7 steps to the root of a number below 2^60. How near w is to the root of v is said by squares: p · w² ≤ q · v says
-- that w is at most the root of q / p times the root of v. After a step the same holds with 4pq and (p + q)² for p and q. From (1, 4) at the start
-- five steps lead to within one of the root; then there are two more.
use Rattle.whole.proofs.Basics.{◌≡◌, refl, ap, subst, ℕ, suc, zero, ◌+◌, ◌*◌, ◌/◌, ◌^◌, ◌≤◌, ◌<◌, arith, ℤ, pos, nat_abs}
use native.Mathlib.Nat.{mul-le-mul, mul-le-mul_left, mul-le-mul_right, lt_of_mul-lt-mul_left, le_dest}
use native.Mathlib.Decide.{dec_le}
use lib.Dec.{lit<}
use Rattle.word.specs.Words.{unit}
use Rattle.word.proofs.WordLaws.{scaled_most}
use Rattle.root.specs.Root.{root_of, Rootable}
use Rattle.root.specs.Heron.{digits_in, start, next, rooted, heron_from, heron_of, rooted_by}
use Rattle.root.specs.declared.Rooted.{Rooted}
use Rattle.root.proofs.RootLaws.{square_lt, root_of_lem, root_most}
use Rattle.root.proofs.HeronLaws.{part, not_below, next-pos, stays, falls_only, start_near, start-pos, goes_on, ends}

-- from w on, at most m steps
abbrev AtMost : ℕ → ℕ → ℕ → Type 0
AtMost v w m = (k n : ℕ) → (heron_from k v w n).steps ≤ n + m

one_more : (v w m : ℕ) → (next v w < w → AtMost v (next v w) m) → AtMost v w (suc m)
unfolding heron_from
one_more v w m f zero n = omega arith
one_more v w m f (suc k) n = by (dec_le w (next v w))
  where
    by : Dec (w ≤ next v w) → (heron_from (suc k) v w n).steps ≤ n + suc m
    by (yes l) = let e = ap (λ (r : Rooted). r.steps) (ends k v w n l) in omega (arith, e)
    by (no l) = let l₁ : next v w < w = omega arith in let e = ap (λ (r : Rooted). r.steps) (goes_on k v w n l₁) in omega (arith, e, f l₁ k (suc n))

-- ---- the last steps. At the root the next is the last, and from one above it the next but one
at_root : (v w : ℕ) → 0 < w → w * w ≤ v → AtMost v w 1
at_root v w h f = one_more v w 0 (λ l. absurd (omega (arith, stays v w h f)))

beside_root : (v w : ℕ) → 0 < v → 0 < w → w ≤ root_of v + 1 → AtMost v w 2
beside_root v w p h g = one_more v w 1 (λ l. at_root v (next v w) (next-pos v w p h) (subst (λ (x : ℕ). x * x ≤ v) (same l) (root_of_lem v).low))
  where
    least : root_of v < next v w + 1
    least = square_lt (root_of v) (next v w + 1) (omega (arith, (root_of_lem v).low, not_below v w h))

    same : next v w < w → root_of v ≡ next v w
    same l = omega (arith, least)

-- ---- how near a step comes
crossed : (a b c d : ℕ) → a ≤ b → c ≤ d → a * d + b * c ≤ a * c + b * d
crossed a b c d f g = subst (λ (x : ℕ). a * x + b * c ≤ a * c + b * x) (le_dest g).1 (at (le_dest g).0)
  where
    at : (k : ℕ) → a * (c + k) + b * c ≤ a * c + b * (c + k)
    at k = omega (arith, mul-le-mul_right k f)

mean : (p q a v : ℕ) → p * a ≤ q * v → p ≤ q → v ≤ a → p * q * ((a + v) * (a + v)) ≤ a * (v * ((p + q) * (p + q)))
mean p q a v f g h = omega (arith, crossed (p * a) (q * v) (p * v) (q * a) f (mul-le-mul g h))

nearer : (p q v w : ℕ) → 0 < w → p ≤ q → p * (w * w) ≤ q * v → v < w * w → 4 * (p * q) * (next v w * next v w) ≤ (p + q) * (p + q) * v
nearer p q v w h g f k =
    let a = w * w in
    let u = next v w in
    let t : 2 * u ≤ w + v / w = omega arith in
    let e : 2 * (w * u) ≤ a + v = omega (arith, part v w h, mul-le-mul_left w t) in
    let m = mean p q a v f g (omega arith) in
    let z : p * q * (2 * (w * u) * (2 * (w * u))) ≤ p * q * ((a + v) * (a + v)) = mul-le-mul_left (p * q) (mul-le-mul e e) in
    let y = lt_of_mul-lt-mul_left a {m = 4 * (p * q) * (u * u)} {n = (p + q) * (p + q) * v + 1} (omega (arith, mul-le-mul h h)) in
    omega arith

-- a step from w, which is so near, and what is known of the next number
step : (v w p q m : ℕ) → 0 < v → 0 < w → p ≤ q → p * (w * w) ≤ q * v → ((u : ℕ) → 0 < u → 4 * (p * q) * (u * u) ≤ (p + q) * (p + q) * v → AtMost v u m) → AtMost v w (suc m)
step v w p q m hv hw g f onward = one_more v w m (λ l. onward (next v w) (next-pos v w hv hw) (nearer p q v w hw g f (falls_only v w hw l)))

-- ---- after five steps: with K² and L² for p and q, and L one above K, w is not above the root + 1
rooted_near : (K L v w r : ℕ) → 0 < L → v < (r + 1) * (r + 1) → K * K * (w * w) ≤ L * L * v → K * w < L * (r + 1)
rooted_near K L v w r p h f = square_lt (K * w) (L * (r + 1)) (omega (arith, mul-le-mul_left (L * L) h, mul-le-mul p p))

within_one : (w r : ℕ) → r < 2 ^ 30 → 926510094425920 * w < 926510094425921 * (r + 1) → w ≤ r + 1
within_one w r h f = omega arith

last_steps : (v w : ℕ) → 0 < v → v < 2 ^ 60 → 0 < w → 858420955073127194654367846400 * (w * w) ≤ 858420955073129047674556698241 * v → AtMost v w 2
last_steps v w p l h f =
    let r = root_of v in
    beside_root v w p h (within_one w r (root_most v l) (rooted_near 926510094425920 926510094425921 v w r (lit< tt) (root_of_lem v).high f))

from_start : (v w : ℕ) → 0 < v → v < 2 ^ 60 → 0 < w → w * w ≤ 4 * v → AtMost v w 7
from_start v w p l h f =
    step v w 1 4 6 p h (omega arith) (omega arith) (λ w₁ h₁ f₁.
    step v w₁ 16 25 5 p h₁ (omega arith) f₁ (λ w₂ h₂ f₂.
    step v w₂ 1600 1681 4 p h₂ (omega arith) f₂ (λ w₃ h₃ f₃.
    step v w₃ 10758400 10764961 3 p h₃ (omega arith) f₃ (λ w₄ h₄ f₄.
    step v w₄ 463255025689600 463255068736321 2 p h₄ (omega arith) f₄ (λ w₅ h₅ f₅.
    last_steps v w₅ p l h₅ f₅)))))

pub steps_most : (v : ℕ) → v < 2 ^ 60 → (heron_of v).steps ≤ 7
steps_most zero l = omega arith
steps_most (suc m) l = from_start (suc m) (start (suc m)) (omega arith) l (start-pos (suc m)) (start_near (suc m) (omega arith)) (start (suc m)) 0

-- ---- of a word, at every scale; and at 24 places a word that takes 7, whose scaled number is 33554433² less one
pub few_steps : (s : ℕ) (x : ℤ) → Rootable s x → (rooted_by s x).steps ≤ 7
few_steps s x r = steps_most (nat_abs x * unit s) (scaled_most (nat_abs x) s (omega (arith, r.1)) r.0.most)

pub seven_steps : rooted_by 24 (pos 67108868) ≡ rooted 33554432 7
unfolding heron_from digits_in
seven_steps = refl
