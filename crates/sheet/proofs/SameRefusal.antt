-- Promise: whatever number is asked for, a sheet that is refused is refused by the same number at the same place.
-- What its bytes have wrong is known from the count, and breaks every walk.
use Rattle.whole.proofs.Basics.{◌≡◌, refl, ap, List, ℕ}
use Rattle.refusal.specs.declared.Refusal.{Refusal}
use Rattle.walking.proofs.RefusalToWalk.{broken}
use Rattle.sheet.specs.Reader.{formula_count, place_answer, formula_place, read_at, formula_read, Place}
use Rattle.sheet.proofs.RefusedThere.{refused_there}
use Rattle.walking.specs.Walking.{Walked}
use Rattle.refusal.specs.Guard.{refused_number, refused_place}
use Rattle.std.specs.Prelude.{Err, Ok, Some}

pub same_refusal : (s : ℕ) (bytes : List ℕ) (n : ℕ) (r : Refusal) → formula_count s bytes ≡ Err r → formula_read s bytes n ≡ Err r
unfolding formula_read formula_place
same_refusal s bytes n r e = ap (λ (w : Walked). read_at bytes (place_answer w)) (broken s bytes r (Some n) (refused_there s bytes r e))

-- and a place is refused as its formula is
pub place_number_lem : (s : ℕ) (bytes : List ℕ) (n : ℕ) → (refused_number (formula_place s bytes n) ≡ refused_number (formula_read s bytes n)) × (refused_place (formula_place s bytes n) ≡ refused_place (formula_read s bytes n))
unfolding formula_read
place_number_lem s bytes n = at (formula_place s bytes n)
  where
    at : (p : Place) → (refused_number p ≡ refused_number (read_at bytes p)) × (refused_place p ≡ refused_place (read_at bytes p))
    at (Ok k) = (refl, refl)
    at (Err r) = (refl, refl)
