-- What is left of Heron's rule in the midst of it: from w on, with n steps done, it comes to the same root, by as many steps in all. So every root but that of
-- 0 takes two steps or more, and it does not matter how many are allowed, if w are.
use Rattle.whole.proofs.Basics.{◌≡◌, ◌∙◌, refl, sym, ap, ℕ, suc, zero, ◌≤◌, ◌<◌, arith}
use native.Mathlib.Decide.{dec_le}
use Rattle.root.specs.Heron.{start, next, rooted, heron_from, heron_of}
use Rattle.root.specs.declared.Rooted.{Rooted}
use Rattle.root.proofs.HeronLaws.{next-pos, falls, start_above, start-pos, goes_on, ends}

pub record Left (v w n : ℕ) : Type 0 where
  pub allowed : ℕ
  pub enough : w ≤ allowed
  pub rest : heron_from allowed v w n ≡ heron_of v

pub left_first : (v : ℕ) → 0 < v → Left v (start v) 0
left_first zero h = absurd (omega arith)
left_first (suc m) h = record { allowed = start (suc m); enough = omega arith; rest = refl }

-- a step that falls
pub left_next : (v w n : ℕ) → next v w < w → Left v w n → Left v (next v w) (suc n)
left_next v w n h l = by l.allowed l.enough l.rest
  where
    by : (k : ℕ) → w ≤ k → heron_from k v w n ≡ heron_of v → Left v (next v w) (suc n)
    by zero f e = absurd (omega arith)
    by (suc k) f e = record { allowed = k; enough = omega arith; rest = sym (goes_on k v w n h) ∙ e }

-- and the last
pub left_last : (v w n : ℕ) → 0 < w → w ≤ next v w → Left v w n → rooted w (suc n) ≡ heron_of v
left_last v w n p h l = by l.allowed l.enough l.rest
  where
    by : (k : ℕ) → w ≤ k → heron_from k v w n ≡ heron_of v → rooted w (suc n) ≡ heron_of v
    by zero f e = absurd (omega arith)
    by (suc k) f e = sym (ends k v w n h) ∙ e

-- no step is taken back
counted : (k v w n : ℕ) → n ≤ (heron_from k v w n).steps
unfolding heron_from
counted zero v w n = omega arith
counted (suc k) v w n = by (dec_le w (next v w)) (counted k v (next v w) (suc n))
  where
    by : Dec (w ≤ next v w) → suc n ≤ (heron_from k v (next v w) (suc n)).steps → n ≤ (heron_from (suc k) v w n).steps
    by (yes l) f = let e = ap (λ (r : Rooted). r.steps) (ends k v w n l) in omega (arith, e)
    by (no l) f = let l₁ : next v w < w = omega arith in let e = ap (λ (r : Rooted). r.steps) (goes_on k v w n l₁) in omega (arith, e)

pub left_counted : (v w n : ℕ) → Left v w n → n ≤ (heron_of v).steps
left_counted v w n l = let e = ap (λ (r : Rooted). r.steps) l.rest in omega (arith, e, counted l.allowed v w n)

-- ---- the first step falls, and one that ends it counts
one_counted : (k v w n : ℕ) → suc n ≤ (heron_from (suc k) v w n).steps
one_counted k v w n = by (dec_le w (next v w))
  where
    by : Dec (w ≤ next v w) → suc n ≤ (heron_from (suc k) v w n).steps
    by (yes l) = let e = ap (λ (r : Rooted). r.steps) (ends k v w n l) in omega (arith, e)
    by (no l) = let l₁ : next v w < w = omega arith in let e = ap (λ (r : Rooted). r.steps) (goes_on k v w n l₁) in omega (arith, e, counted k v (next v w) (suc n))

pub two_at_least : (v : ℕ) → 0 < v → 2 ≤ (heron_of v).steps
two_at_least v p = by l.allowed l.enough l.rest
  where
    l : Left v (next v (start v)) 1
    l = left_next v (start v) 0 (falls v (start v) (start_above v)) (left_first v p)

    by : (k : ℕ) → next v (start v) ≤ k → heron_from k v (next v (start v)) 1 ≡ heron_of v → 2 ≤ (heron_of v).steps
    by zero f e = absurd (omega (arith, next-pos v (start v) p (start-pos v)))
    by (suc k) f e = let g = ap (λ (r : Rooted). r.steps) e in omega (arith, g, one_counted k v (next v (start v)) 1)

-- ---- how many are allowed
pub enough_allowed : (j k v w n : ℕ) → 0 < v → 0 < w → w ≤ j → w ≤ k → heron_from j v w n ≡ heron_from k v w n
enough_allowed zero k v w n p h f g = absurd (omega arith)
enough_allowed (suc j) zero v w n p h f g = absurd (omega arith)
enough_allowed (suc j) (suc k) v w n p h f g = by (dec_le w (next v w)) (λ l. enough_allowed j k v (next v w) (suc n) p (next-pos v w p h) (omega arith) (omega arith))
  where
    by : Dec (w ≤ next v w) → (next v w < w → heron_from j v (next v w) (suc n) ≡ heron_from k v (next v w) (suc n)) → heron_from (suc j) v w n ≡ heron_from (suc k) v w n
    by (yes l) onward = ends j v w n l ∙ sym (ends k v w n l)
    by (no l) onward = let l₁ : next v w < w = omega arith in goes_on j v w n l₁ ∙ onward l₁ ∙ sym (goes_on k v w n l₁)
