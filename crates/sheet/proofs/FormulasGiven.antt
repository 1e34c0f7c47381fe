-- Promise: each formula that the reader gives is sound, not blank and admitted and has the number asked for; a number is found exactly
-- when a record of the sheet has it, and the formula is then that record's.
use Rattle.whole.proofs.Basics.{◌≡◌, ◌∙◌, refl, ap, subst, ◌⊎◌, inl, inr, List, ℕ, arith, length}
use Rattle.word.specs.Words.{Scale}
use Rattle.layout.specs.Fields.{formula_number, formula_of}
use Rattle.refusal.specs.Guard.{refusal, refused_number, refused_place}
use Rattle.records.specs.Sheets.{FormulaBytes, Has, SheetOf}
use Rattle.walking.proofs.Formulas.{place_in}
use Rattle.sheet.specs.Reader.{formula_count, place_found, place_answer, formula_place, formula_in, read_at, formula_read, Accepted, HasFormula, Fit, FormulaCount, formula_given, Given}
use Rattle.sheet.proofs.AcceptedShape.{accepted_shape, walk_of_lem}
use Rattle.sheet.proofs.SameRefusal.{same_refusal}
use Rattle.sheet.proofs.Places.{RecordAt, noted, has, stands}
use Rattle.sheet.proofs.Words.{fit}
use Rattle.walking.specs.Walking.{Walked}
use Rattle.std.specs.Prelude.{Err, Ok, Option, Some, None}

-- ---- what the reader answers for a number that a sheet has, and for one that it has not

-- the formula of a record b of the sheet, which has the number n
pub record Gives (s : ℕ) (bytes : List ℕ) (n : ℕ) (fs : List (List ℕ)) : Type 0 where
  pub record_bytes_lem : List ℕ
  pub there : Has n fs
  pub number : formula_number record_bytes_lem ≡ n
  pub answer : formula_read s bytes n ≡ Ok (formula_in record_bytes_lem)
  pub fits : Fit s (formula_in record_bytes_lem)

-- none of the records has it, and the answer is 11
abbrev pub Lacks : ℕ → List ℕ → ℕ → List (List ℕ) → Type 0
Lacks s bytes n fs = (Has n fs → ⊥) × (formula_read s bytes n ≡ Err (refusal 0 11))

module _ (s c : ℕ) (bytes : List ℕ) (h : SheetOf s c bytes) (n : ℕ) where
  place : Option ℕ
  place = place_in (Some n) (length h.start) None h.formulas

  answer_is : formula_read s bytes n ≡ read_at bytes (place_found place)
  unfolding formula_read formula_place place
  answer_is = ap (λ (w : Walked). read_at bytes (place_answer w)) (walk_of_lem s c bytes h (Some n))

  gives : (j : ℕ) → place ≡ Some j → RecordAt n (length h.start) j h.formulas → Gives s bytes n h.formulas
  gives j q a =
      let b = a.here in
      let t = stands s c bytes h n j a in
      let e = t.1 in
      let f : FormulaBytes s b = subst (FormulaBytes s) e t.0.here in
      record {
        record_bytes_lem = b;
        there = has n _ _ h.formulas a;
        number = a.number;
        answer = answer_is ∙ ap (λ (k : Option ℕ). read_at bytes (place_found k)) q ∙ ap (λ (x : List ℕ). Ok (formula_in x)) e;
        fits = fit s b f;
      }

  pub found_or_not : Gives s bytes n h.formulas ⊎ Lacks s bytes n h.formulas
  unfolding place
  found_or_not = at (noted n (length h.start) None h.formulas)
    where
      at : ((place ≡ None) × (Has n h.formulas → ⊥)) ⊎ ((j : ℕ) × (place ≡ Some j) × RecordAt n (length h.start) j h.formulas) → Gives s bytes n h.formulas ⊎ Lacks s bytes n h.formulas
      at (inl x) = inr (x.1, answer_is ∙ ap (λ (k : Option ℕ). read_at bytes (place_found k)) x.0)
      at (inr (j, q, a)) = inl (gives j q a)

-- ---- the promises

-- a number is found exactly when a record of the sheet has it
pub found_exactly : (s c : ℕ) (bytes : List ℕ) (h : SheetOf s c bytes) (n : ℕ) → (Has n h.formulas → HasFormula s bytes n) × (HasFormula s bytes n → Has n h.formulas)
found_exactly s c bytes h n = at (found_or_not s c bytes h n)
  where
    at : Gives s bytes n h.formulas ⊎ Lacks s bytes n h.formulas → (Has n h.formulas → HasFormula s bytes n) × (HasFormula s bytes n → Has n h.formulas)
    at (inl g) = ((λ x. ap refused_number g.answer), λ x. g.there)
    at (inr l) = ((λ x. absurd (l.0 x)), λ x. absurd (let z : ◌≡◌ {A = ℕ} 11 0 = rw l.1 at x in omega arith))

-- else it is refused by 11, at place 0
pub not_found : (s c : ℕ) (bytes : List ℕ) (h : SheetOf s c bytes) (n : ℕ) → (Has n h.formulas → ⊥) → (refused_number (formula_read s bytes n) ≡ 11) × (refused_place (formula_read s bytes n) ≡ 0)
not_found s c bytes h n z = at (found_or_not s c bytes h n)
  where
    at : Gives s bytes n h.formulas ⊎ Lacks s bytes n h.formulas → (refused_number (formula_read s bytes n) ≡ 11) × (refused_place (formula_read s bytes n) ≡ 0)
    at (inl g) = absurd (z g.there)
    at (inr l) = (ap refused_number l.1, ap refused_place l.1)

module _ (s : ℕ) (bytes : List ℕ) (n : ℕ) (e : HasFormula s bytes n) where
  -- a number is found in an accepted sheet only
  pub given_accepted : Accepted s bytes
  given_accepted = at (formula_count s bytes) refl
    where
      at : (x : FormulaCount) → formula_count s bytes ≡ x → refused_number x ≡ 0
      at (Ok c) q = refl
      at (Err r) q = rw (same_refusal s bytes n r q) at e

  -- so the scale is a board's
  pub given_scale : Scale s
  given_scale = (accepted_shape s bytes given_accepted).scale

  there : (fs : List (List ℕ)) → Gives s bytes n fs ⊎ Lacks s bytes n fs → Gives s bytes n fs
  there fs (inl g) = g
  there fs (inr l) = absurd (let z : ◌≡◌ {A = ℕ} 11 0 = rw l.1 at e in omega arith)

  -- a formula that is given is sound, not blank and admitted, and has the number
  pub given_fits : Fit s (formula_given (formula_read s bytes n)) × ((formula_given (formula_read s bytes n)).number ≡ n)
  unfolding formula_of
  given_fits =
      let h = accepted_shape s bytes given_accepted in
      let g = there h.formulas (found_or_not s _ bytes h n) in
      rw g.answer (g.fits, g.number)

  -- no refusal has the number 0: where there is none, the formula is given
  pub given_found : Given (formula_read s bytes n)
  given_found =
      let h = accepted_shape s bytes given_accepted in
      rw (there h.formulas (found_or_not s _ bytes h n)).answer refl
