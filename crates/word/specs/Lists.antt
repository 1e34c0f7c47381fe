-- What is said of every number of a list.
use Rattle.std.specs.Prelude.{List, [], ◌∷◌, ℕ, zero, suc, ℤ, pos, negsuc, get_or}
use Rattle.std.proofs.Common.{arith, lit≤}
use Rattle.word.specs.Words.{Word}

abbrev pub All : (ℤ → Type 0) → List ℤ → Type 0
All p [] = Unit
All p (z ∷ zs) = p z × All p zs

-- every stored number is a word; past the end stands 0, which is one
abbrev pub Words : List ℤ → Type 0
Words ws = (i : ℕ) → Word (get_or ws i (pos 0))

-- ---- worked examples: the largest word and the least; the pattern that is no word
two_ends : All Word (pos 2147483647 ∷ negsuc 2147483646 ∷ [])
two_ends = (lit≤ tt, (lit≤ tt, tt))

two_ends_are_words : Words (pos 2147483647 ∷ negsuc 2147483646 ∷ [])
two_ends_are_words zero = lit≤ tt
two_ends_are_words (suc zero) = lit≤ tt
two_ends_are_words (suc (suc i)) = lit≤ tt

one_is_none : Words (pos 1 ∷ negsuc 2147483647 ∷ []) → ⊥
one_is_none f = omega (arith, f 1)
