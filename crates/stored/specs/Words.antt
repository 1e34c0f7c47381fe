-- The words that a stretch of bytes holds.
use Rattle.std.specs.Prelude.{◌≡◌, refl, map, List, [], ◌∷◌, ℕ, zero, suc, ◌+◌, ◌*◌, ◌≤◌, ℤ, pos, negsuc, length}
use Rattle.stored.specs.Numbers.{number4, word4}

-- the m words from a place on, of four bytes each
unfoldable pub words : List ℕ → ℕ → ℕ → List ℤ
words b at zero = []
words b at (suc m) = word4 b at ∷ words b (at + 4) m

-- a word by its own four bytes, and a list of such words
abbrev pub value : List ℕ → ℤ
value word = word4 word 0

abbrev pub values : List (List ℕ) → List ℤ
values = map value

-- the bytes reach as far as that
abbrev pub Stretch : List ℕ → ℕ → ℕ → Type 0
Stretch b at m = at + 4 * m ≤ length b

-- ---- a worked example: two words behind one byte
two_words : words (9 ∷ 1 ∷ 2 ∷ 0 ∷ 0 ∷ 255 ∷ 255 ∷ 255 ∷ 255 ∷ []) 1 2 ≡ pos 513 ∷ negsuc 0 ∷ []
unfolding words number4
two_words = refl
