-- And back: where a sheet's bytes are at fault the walk is broken, by that number at that place, whatever number is asked for. It goes past
-- the start and past each formula, and so comes to the fault.
use Rattle.whole.proofs.Basics.{◌≡◌, ◌∙◌, refl, sym, ap, inl, inr, List, ℕ, suc, ◌+◌, ◌-◌, arith, length, lt-ltb}
use Rattle.refusal.specs.Guard.{refusal}
use Rattle.refusal.specs.declared.Refusal.{Refusal}
use Rattle.walking.specs.Walking.{begin, after_start, walk_from, walk_of}
use Rattle.walking.specs.Refused.{fault_there, AtTheStart, BehindFormulas, BehindTheEnd, RefusedAt}
use Rattle.walking.specs.declared.Walk.{Walk}
use Rattle.walking.proofs.Clear.{walk_broken}
use Rattle.walking.proofs.Formulas.{after_all, behind, past_all}
use Rattle.walking.proofs.ShapeToWalk.{past_start, walked}
use Rattle.walking.proofs.WalkToRefusal.{there}
use Rattle.std.specs.Prelude.{Err, Option}

module _ (s : ℕ) (bytes : List ℕ) (r : Refusal) (asked : Option ℕ) where
  -- a walk that stands at the fault
  stops : (w : Walk) (k : ℕ) → fault_there s bytes w.at w.count w.seen w.next ≡ r.number → (r.number ≡ 0 → ⊥) → r.place ≡ w.at → walk_from (suc k) s bytes 0 w ≡ Err r
  stops w k f n p = walk_broken s bytes 0 w k refl (sym f ∙ there s bytes w) n ∙ ap (λ (x : ℕ). Err (refusal x r.number)) (sym p)

  first : AtTheStart s bytes r → walk_of s bytes 0 asked ≡ Err r
  unfolding walk_of
  first h = stops (begin 0 asked) 65 h.fault h.some h.place

  later : BehindFormulas s bytes r → walk_of s bytes 0 asked ≡ Err r
  unfolding walk_of
  later h =
      let b = h.start in
      let fs = h.formulas in
      let w = after_start b (begin 0 asked) in
      let v = after_all fs w in
      let d = behind fs w in
      let m = length fs in
      let k : 65 ≡ m + suc (64 - m) = omega (arith, h.room, h.opens.2) in
      let seen : v.seen ≡ m = omega (arith, d.seen) in
      let place : v.at ≡ r.place = d.at ∙ sym h.place in
      past_start s bytes b _ asked 65 h.whole h.opens.0 h.opens.1 h.opens.2 h.scale
      ∙ ap (λ (j : ℕ). walk_from j s bytes 0 w) k
      ∙ past_all s bytes 0 fs b h.after w (suc (64 - m)) h.whole (omega arith) (λ z. omega (arith, z, h.opens.0.least)) (omega (arith, h.room)) h.each h.rising
      ∙ stops v (64 - m) (rw (place, d.count, seen, d.next) h.fault) h.some (sym place)

  last : BehindTheEnd s bytes r → walk_of s bytes 0 asked ≡ Err r
  last h =
      let n = length h.sheet in
      rw (h.whole, h.nine) (rw (lt-ltb n (n + length h.after) (omega (arith, h.more))) at (walked s h.count h.sheet h.after h.shape asked))

  pub broken : RefusedAt s bytes r → walk_of s bytes 0 asked ≡ Err r
  broken (inl h) = first h
  broken (inr (inl h)) = later h
  broken (inr (inr h)) = last h
