-- Each element of an array of signed numbers that code holds fits its width, and past the end there is 0.
use Rattle.whole.proofs.Basics.{List, [], ◌∷◌, ℕ, suc, zero, arith, get_or, ℤ, pos, w32, SFits}
use mir.Val.{Val}
use denote.Array.{each}
use denote.Shadow.{shadow}
use denote.Signed.{SInt}

pub element : (xs : List ℤ) (us : List Val) (i : ℕ) → shadow (each ℤ (SInt w32).own_val xs us) → SFits w32 (get_or xs i (pos 0))
element [] us i p = record { sfits = omega arith }
element (x ∷ xs) [] i p = absurd p
element (x ∷ xs) (u ∷ us) zero p = record { sfits = p.0.1 }
element (x ∷ xs) (u ∷ us) (suc i) p = element xs us i p.1
