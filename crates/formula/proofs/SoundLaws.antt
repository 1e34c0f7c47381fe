-- What a sound formula says at the kind that it has, and where a rational's words stand.
use Rattle.whole.proofs.Basics.{◌≡◌, subst, List, ℕ, ◌+◌, ◌≤◌, arith, length, take, drop, ℤ}
use lib.ListN.{length-drop}
use lib.Seq.{length-take-le}
use Rattle.formula.specs.Formula.{Counted, word_count, Sound}
use Rattle.formula.specs.declared.Kind.{Kind}
use Rattle.formula.specs.declared.Shape.{Shape}

module _ (h : Shape) (lo hi : ℤ) (ws : List ℤ) (sound : Sound h lo hi ws) (k : Kind) (e : h.kind ≡ k) where
  pub counts_at : Counted k h.p h.q h.mode
  counts_at = subst (λ (j : Kind). Counted j h.p h.q h.mode) e sound.counts

  pub room_at : word_count k h.p h.q ≤ length ws
  room_at = subst (λ (j : Kind). word_count j h.p h.q ≤ length ws) e sound.room

-- ---- the divisor's coefficients stand behind the numerator's
pub length_second : (p q : ℕ) (ws : List ℤ) → p + q ≤ length ws → length (take q (drop p ws)) ≡ q
length_second p q ws h = length-take-le q (drop p ws) (omega (arith, length-drop p ws))
