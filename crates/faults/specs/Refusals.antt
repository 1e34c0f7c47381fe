-- The refusals that a record, and a sheet, can give, as sets. A request that adds one adds it here, and to the record writer's own set
-- where that can give it too.
use Rattle.std.specs.Prelude.{ℕ, ◌≡◌, refl, ◌⊎◌, List, [], ◌∷◌, length}
use Rattle.std.proofs.Common.{inl, inr}

-- one of a list of numbers
abbrev pub OneOf : List ℕ → ℕ → Type 0
OneOf [] n = ⊥
OneOf (k ∷ ks) n = (n ≡ k) ⊎ OneOf ks n

-- a record's, at its place in a sheet or a run; and a sheet's
abbrev pub record_refusals : List ℕ
record_refusals = 1 ∷ 2 ∷ 3 ∷ 4 ∷ 5 ∷ 6 ∷ 14 ∷ 7 ∷ 8 ∷ []

abbrev pub sheet_refusals : List ℕ
sheet_refusals = 9 ∷ record_refusals

-- ---- worked examples: a record's are 1 to 8 and 14, these nine and no more; a sheet's are 9 and these
nine : OneOf record_refusals 1 × OneOf record_refusals 2 × OneOf record_refusals 3 × OneOf record_refusals 4 × OneOf record_refusals 5
    × OneOf record_refusals 6 × OneOf record_refusals 7 × OneOf record_refusals 8 × OneOf record_refusals 14
    × (length record_refusals ≡ 9)
nine = (inl refl, inr (inl refl), inr (inr (inl refl)), inr (inr (inr (inl refl))), inr (inr (inr (inr (inl refl)))), inr (inr (inr (inr (inr (inl refl))))), inr (inr (inr (inr (inr (inr (inr (inl refl))))))), inr (inr (inr (inr (inr (inr (inr (inr (inl refl)))))))), inr (inr (inr (inr (inr (inr (inl refl)))))), refl)

ten : OneOf sheet_refusals 9 × (length sheet_refusals ≡ 10)
ten = (inl refl, refl)
