-- Promise: a refusal's place has a meaning of its own. Where the reader refuses a sheet, all before the place is without fault and what stands
-- there is not, or a whole sheet ends there (9); and whoever shows such a place has shown what the reader answers. So there is only one.
use Rattle.whole.proofs.Basics.{◌≡◌, ◌∙◌, refl, sym, ap, List, ℕ, arith}
use Rattle.refusal.specs.declared.Refusal.{Refusal}
use Rattle.walking.specs.Refused.{RefusedAt}
use Rattle.walking.specs.Walking.{walk_of, Walked}
use Rattle.walking.proofs.WalkToRefusal.{refused_at}
use Rattle.walking.proofs.RefusalToWalk.{broken}
use Rattle.sheet.specs.Reader.{count_answer, formula_count}
use Rattle.std.specs.Prelude.{Err, Ok, None}

module _ (s : ℕ) (bytes : List ℕ) (r : Refusal) where
  pub refused_there : formula_count s bytes ≡ Err r → RefusedAt s bytes r
  unfolding formula_count
  refused_there e = at (walk_of s bytes 0 None) refl e
    where
      at : (w : Walked) → walk_of s bytes 0 None ≡ w → count_answer w ≡ Err r → RefusedAt s bytes r
      at (Ok w) q p = absurd (let z : ◌≡◌ {A = ℕ} 0 1 = cc in omega arith)
      at (Err t) q p = refused_at s bytes r None (q ∙ ap Err cc)

  pub there_refused : RefusedAt s bytes r → formula_count s bytes ≡ Err r
  unfolding formula_count
  there_refused h = ap count_answer (broken s bytes r None h)

pub one_place : (s : ℕ) (bytes : List ℕ) (r t : Refusal) → RefusedAt s bytes r → RefusedAt s bytes t → r ≡ t
one_place s bytes r t h k = let e : Err r ≡ Err t = sym (there_refused s bytes r h) ∙ there_refused s bytes t k in cc
