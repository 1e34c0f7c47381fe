-- The binary places without a fault are those that a board may have.
use Rattle.whole.proofs.Basics.{◌≡◌, refl, ℕ, arith, ltb, ltb-false, le-ltb}
use Rattle.word.specs.Words.{Scale}
use Rattle.faults.specs.Faults.{scale_fault}
use Rattle.faults.proofs.Chain.{passed}

pub good_scale : (s : ℕ) → scale_fault s ≡ 0 → Scale s
unfolding scale_fault
good_scale s e =
    let a = passed (ltb s 16) 6 _ (λ z. omega arith) e in
    record { least = ltb-false _ _ a.0; most = ltb-false _ _ (passed (ltb 28 s) 6 0 (λ z. omega arith) a.1).0 }

pub no_scale_fault : (s : ℕ) → Scale s → scale_fault s ≡ 0
unfolding scale_fault
no_scale_fault s k = rw (le-ltb s 16 k.least, le-ltb 28 s k.most) refl
