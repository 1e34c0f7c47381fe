-- Heron's rule: it starts above the root, it falls while it is above, it never passes below, and where it stops falling it is the root.
use Rattle.whole.proofs.Basics.{◌≡◌, sym, ap, subst, Bool, cond, ℕ, suc, zero, ◌+◌, ◌*◌, ◌/◌, ◌^◌, ◌≤◌, ◌<◌, arith, pos, lt-ltb, le-ltb}
use native.Mathlib.Nat.{mul-le-mul_left, div-add-mod, mod-lt, lt_of_mul-lt-mul_left, le_dest, pow-succ', pow-zero, zero-mul}
use native.Mathlib.Decide.{dec_le}
use lib.Pow.{pow_pos, pow_mono, pow-add}
use Rattle.word.specs.Words.{unit}
use Rattle.root.specs.Root.{RootOf, root_of}
use Rattle.root.specs.Heron.{digits, start, next, rooted, heron_from, heron_of, rooted_by}
use Rattle.root.specs.declared.Rooted.{Rooted}
use Rattle.root.proofs.DigitsLaws.{digits_of, digits_most}
use Rattle.root.proofs.RootLaws.{root_is, root_largest}

-- ---- a step
pub part : (v w : ℕ) → 0 < w → (w * (v / w) ≤ v) × (v < w * (v / w) + w)
part v w h = (omega (arith, div-add-mod v w), omega (arith, div-add-mod v w, mod-lt v h))

-- twice a product is no more than the squares
squares : (a b : ℕ) → 2 * (a * b) ≤ a * a + b * b
squares a b = by (dec_le a b)
  where
    at : (a d : ℕ) → 2 * (a * (a + d)) ≤ a * a + (a + d) * (a + d)
    at a d = omega arith

    by : Dec (a ≤ b) → 2 * (a * b) ≤ a * a + b * b
    by (yes f) = subst (λ (x : ℕ). 2 * (a * x) ≤ a * a + x * x) (le_dest f).1 (at a (le_dest f).0)
    by (no f) = let g : b ≤ a = omega arith in subst (λ (x : ℕ). 2 * (x * b) ≤ x * x + b * b) (le_dest g).1 (omega (arith, at b (le_dest g).0))

-- the new number is not below the root, whatever the old was
pub not_below : (v w : ℕ) → 0 < w → v < (next v w + 1) * (next v w + 1)
not_below v w h =
    let m = next v w + 1 in
    let f : w + v / w + 1 ≤ m + m = omega arith in
    omega (arith, part v w h, squares w m, mul-le-mul_left w f)

-- so it is not 0, where v is not
pub next-pos : (v w : ℕ) → 0 < v → 0 < w → 0 < next v w
next-pos v w p h = by (next v w) (not_below v w h)
  where
    by : (u : ℕ) → v < (u + 1) * (u + 1) → 0 < u
    by zero f = absurd (omega arith)
    by (suc u) f = omega arith

-- it is below the old where the old's square is above v, and only there
pub falls : (v w : ℕ) → v < w * w → next v w < w
falls v zero h = absurd (omega arith)
falls v (suc w) h =
    let p : 0 < suc w = omega arith in
    let q = lt_of_mul-lt-mul_left (suc w) {m = v / suc w} {n = suc w} (omega (arith, part v (suc w) p)) in
    omega arith

pub stays : (v w : ℕ) → 0 < w → w * w ≤ v → w ≤ next v w
stays v w p h =
    let q = lt_of_mul-lt-mul_left w {m = w} {n = v / w + 1} (omega (arith, part v w p)) in
    omega arith

pub falls_only : (v w : ℕ) → 0 < w → next v w < w → v < w * w
falls_only v w p h = by (dec_le (w * w) v)
  where
    by : Dec (w * w ≤ v) → v < w * w
    by (yes f) = absurd (omega (arith, stays v w p f))
    by (no f) = omega arith

stays_only : (v w : ℕ) → w ≤ next v w → w * w ≤ v
stays_only v w h = by (dec_le (w * w) v)
  where
    by : Dec (w * w ≤ v) → w * w ≤ v
    by (yes f) = f
    by (no f) = absurd (omega (arith, falls v w (omega arith)))

-- ---- the start, 2 to the power of half the digits rounded up: v < w · w ≤ 4 · v
pub start_above : (v : ℕ) → v < start v * start v
start_above v =
    let k = (digits v + 1) / 2 in
    let f : digits v ≤ k + k = omega arith in
    omega (arith, (digits_of v).below, pow_mono {i = digits v} {j = k + k} f, pow-add 2 k k)

least_twice : (m v : ℕ) → 0 < v → 2 ^ m ≤ 2 * v + 1 → 2 * 2 ^ m ≤ 4 * v
least_twice zero v h f = omega (arith, pow-zero 2)
least_twice (suc m) v h f = omega (arith, pow-succ' 2 m)

pub start_near : (v : ℕ) → 0 < v → start v * start v ≤ 4 * v
start_near v h =
    let m = digits v in
    let k = (m + 1) / 2 in
    let f : k + k ≤ suc m = omega arith in
    omega (arith, least_twice m v h (digits_of v).least, pow-succ' 2 m, pow_mono {i = k + k} {j = suc m} f, pow-add 2 k k)

pub start-pos : (v : ℕ) → 0 < start v
start-pos v = pow_pos ((digits v + 1) / 2)

-- of a number of at most 60 digits it is at most 2 ^ 30
pub exponent_most : (v : ℕ) → v < 2 ^ 60 → (digits v + 1) / 2 ≤ 30
exponent_most v h = omega (arith, digits_most v 60 h)

pub start_most : (v : ℕ) → v < 2 ^ 60 → start v ≤ 2 ^ 30
start_most v h = pow_mono {i = (digits v + 1) / 2} {j = 30} (exponent_most v h)

-- ---- the walk. Where the new number is below the old it goes on from there, with a step more; else it ends
pub goes_on : (k v w n : ℕ) → next v w < w → heron_from (suc k) v w n ≡ heron_from k v (next v w) (suc n)
unfolding heron_from
goes_on k v w n h = ap (λ (b : Bool). cond b (heron_from k v (next v w) (suc n)) (rooted w (suc n))) (lt-ltb (next v w) w h)

pub ends : (k v w n : ℕ) → w ≤ next v w → heron_from (suc k) v w n ≡ rooted w (suc n)
unfolding heron_from
ends k v w n h = ap (λ (b : Bool). cond b (heron_from k v (next v w) (suc n)) (rooted w (suc n))) (le-ltb (next v w) w h)

-- ---- the old number at the end is the largest whole number whose square is not above v
walked : (k v w n : ℕ) → 0 < v → 0 < w → w ≤ k → v < (w + 1) * (w + 1) → RootOf v (heron_from k v w n).root
walked zero v w n p h f g = absurd (omega arith)
walked (suc k) v w n p h f g = by (dec_le w (next v w)) (λ l. walked k v (next v w) (suc n) p (next-pos v w p h) (omega arith) (not_below v w h))
  where
    by : Dec (w ≤ next v w) → (next v w < w → RootOf v (heron_from k v (next v w) (suc n)).root) → RootOf v (heron_from (suc k) v w n).root
    by (yes l) onward = subst (λ (r : Rooted). RootOf v r.root) (sym (ends k v w n l)) (record { low = stays_only v w l; high = g })
    by (no l) onward = let l₁ : next v w < w = omega arith in subst (λ (r : Rooted). RootOf v r.root) (sym (goes_on k v w n l₁)) (onward l₁)

pub heron_root : (v : ℕ) → RootOf v (heron_of v).root
heron_root zero = record { low = omega arith; high = omega arith }
heron_root (suc m) = walked (start (suc m)) (suc m) (start (suc m)) 0 (omega arith) (start-pos (suc m)) (omega arith) (omega (arith, start_above (suc m)))

pub heron_is : (v : ℕ) → (heron_of v).root ≡ root_of v
heron_is v = root_is v (heron_of v).root (heron_root v).low (heron_root v).high

pub heron_largest : (v q : ℕ) → q * q ≤ v → q ≤ (heron_of v).root
heron_largest v q h = omega (arith, heron_is v, root_largest v q h)

-- the root of 0 takes no step, at any number of binary places
pub zero_takes_none : (s : ℕ) → rooted_by s (pos 0) ≡ rooted 0 0
zero_takes_none s = ap heron_of (zero-mul (unit s))
