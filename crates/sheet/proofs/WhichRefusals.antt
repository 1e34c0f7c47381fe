-- Promise: any bytes are accepted, or refused by one of a sheet's refusals; a number asked for is refused by these, or by 11. For a walk over
-- a sheet is whole, or broken by one of them.
use Rattle.whole.proofs.Basics.{◌≡◌, refl, ◌⊎◌, inl, inr, List, ℕ, arith}
use Rattle.faults.specs.Refusals.{OneOf, sheet_refusals}
use Rattle.faults.proofs.FaultSets.{not_zero}
use Rattle.walking.specs.Walking.{walk_of, Walked, whole}
use Rattle.walking.proofs.Numbered.{Numbered, numbered}
use Rattle.sheet.specs.Reader.{formula_count, count_answer, reader_refusals, place_found, place_answer, formula_place, read_at, formula_read, Accepted, NotAccepted, Place, Given}
use Rattle.refusal.specs.Guard.{refused_number}
use Rattle.std.specs.Prelude.{Err, Ok, Option, Some, None}

-- ---- the count

pub accepted_or_refused : (s : ℕ) (bytes : List ℕ) → Accepted s bytes ⊎ NotAccepted s bytes
unfolding formula_count
accepted_or_refused s bytes = at (walk_of s bytes 0 None) (numbered s bytes 0 None)
  where
    at : (r : Walked) → Numbered 0 r → (refused_number (count_answer r) ≡ 0) ⊎ OneOf sheet_refusals (refused_number (count_answer r))
    at (Ok w) h = inl refl
    at (Err r) h = inr h

-- an accepted sheet has a count, and the walk that gave it
pub accepted : (s : ℕ) (bytes : List ℕ) → Accepted s bytes → (c : ℕ) × (k : Option ℕ) × (walk_of s bytes 0 None ≡ whole c k)
unfolding formula_count
accepted s bytes e = at (walk_of s bytes 0 None) refl (numbered s bytes 0 None) e
  where
    at : (r : Walked) → walk_of s bytes 0 None ≡ r → Numbered 0 r → refused_number (count_answer r) ≡ 0 → (c : ℕ) × (k : Option ℕ) × (walk_of s bytes 0 None ≡ whole c k)
    at (Ok w) q h p = (w.count, w.found, q)
    at (Err r) q h p = absurd (not_zero sheet_refusals r.number tt h p)

-- ---- the place of a formula, and the formula

pub or_eleven : (s : ℕ) (bytes : List ℕ) (n : ℕ) → ((k : ℕ) × (formula_place s bytes n ≡ Ok k)) ⊎ OneOf reader_refusals (refused_number (formula_place s bytes n))
unfolding formula_place
or_eleven s bytes n = at (walk_of s bytes 0 (Some n)) (numbered s bytes 0 (Some n))
  where
    noted : (k : Option ℕ) → ((j : ℕ) × (place_found k ≡ Ok j)) ⊎ OneOf reader_refusals (refused_number (place_found k))
    noted None = inr (inl refl)
    noted (Some k) = inl (k, refl)

    at : (r : Walked) → Numbered 0 r → ((k : ℕ) × (place_answer r ≡ Ok k)) ⊎ OneOf reader_refusals (refused_number (place_answer r))
    at (Ok w) h = noted w.found
    at (Err r) h = inr (inr h)

pub read_or_eleven : (s : ℕ) (bytes : List ℕ) (n : ℕ) → Given (formula_read s bytes n) ⊎ OneOf reader_refusals (refused_number (formula_read s bytes n))
unfolding formula_read
read_or_eleven s bytes n = at (formula_place s bytes n) (or_eleven s bytes n)
  where
    at : (p : Place) → ((k : ℕ) × (p ≡ Ok k)) ⊎ OneOf reader_refusals (refused_number p) → Given (read_at bytes p) ⊎ OneOf reader_refusals (refused_number (read_at bytes p))
    at (Ok k) h = inl refl
    at (Err r) (inl h) = absurd (let z : ◌≡◌ {A = ℕ} 0 1 = cc h.1 in omega arith)
    at (Err r) (inr h) = inr h
