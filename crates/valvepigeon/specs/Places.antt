-- The binary places of the boards that the C library serves.
use Rattle.std.specs.Prelude.{ℕ, ◌≡◌, refl, [], ◌∷◌, pos}
use Rattle.word.specs.Rounded.{rounded}
use Rattle.polynomial.specs.Polynomial.{horner}

-- document 01: a word w stands for w / 2^24
abbrev pub places : ℕ
places = 24

-- ---- a worked example: one times one is one, and 16777216 is the word of one
one_of_one : horner places (pos 0 ∷ pos 16777216 ∷ []) (pos 16777216) ≡ pos 16777216
unfolding horner rounded
one_of_one = refl
