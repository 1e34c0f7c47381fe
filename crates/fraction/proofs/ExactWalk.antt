-- The mark as the code meets it: `before` marks what came before a step, the square before the first one. A mark joined to those before it may as well
-- be joined to those after it, so that the code's order gives the definition's.
use Rattle.whole.proofs.Basics.{◌≡◌, refl, Bool, true, cond, List, ℕ, suc, zero, ◌<◌, arith, ltb, ℤ}
use mathlib.Core.Bool.{◌&&◌, and-true, and_assoc}
use Rattle.word.specs.Exact.{exact_product, square_exact, whole_at}
use Rattle.word.proofs.LooseLaws.{whole_none, counted_mark}
use Rattle.fraction.specs.Fraction.{b_at, a_after, at, rest_of, next_of}
use Rattle.fraction.specs.Exact.{step_exact, outward_exact, square_used}

-- ---- the walk: at depth 0, and one step, at j = i + 1
pub mark_done : (before : Bool) (s : ℕ) (first rest : ℤ) (ws : List ℤ) (j : ℕ) (t : ℤ) → j ≡ 0 → (before && outward_exact s first rest ws j t) ≡ before
unfolding outward_exact
mark_done before s first rest ws j t e = rw e (and-true before)

pub step_mark :
    (before : Bool) (s : ℕ) (first rest : ℤ) (ws : List ℤ) (i j : ℕ) (t : ℤ)
    → j ≡ suc i
    → ((before && step_exact s (a_after ws i) (at first rest i) t) && outward_exact s first rest ws i (next_of s (a_after ws i) (b_at ws i) (at first rest i) t))
    ≡ (before && outward_exact s first rest ws j t)
unfolding outward_exact
step_mark before s first rest ws i j t e = rw e (and_assoc before _ _)

-- ---- the square: where it is used, and that what counts of it tells its mark
pub used_in_two : (mode k : ℕ) → 1 < mode → square_used mode k ≡ ltb 1 k
used_in_two zero k h = absurd (omega arith)
used_in_two (suc zero) k h = absurd (omega arith)
used_in_two (suc (suc m)) k h = refl

pub square_mark :
    (s mode k loose : ℕ) (x : ℤ)
    → whole_at s loose ≡ rest_of mode true (exact_product s x x)
    → whole_at s (cond (square_used mode k) loose 0) ≡ square_exact (square_used mode k) s x
square_mark s zero k loose x e = whole_none s
square_mark s (suc m) k loose x e = counted_mark (square_used (suc m) k) s loose (exact_product s x x) e
