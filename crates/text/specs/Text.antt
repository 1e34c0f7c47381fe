-- Text in ASCII: words, numbers in decimal, and what it says that a text is put into a buffer.
use Rattle.std.specs.Prelude.{ℕ, zero, suc, ◌+◌, ◌/◌, ◌%◌, ◌≡◌, refl, List, [], ◌∷◌, ◌++◌, cond, ltb, ℤ, pos, negsuc, length}
use Prim.Native.Char.{code}
use Prim.Native.String.{String, [] as empty, ◌∷◌ as ◌◂◌}
use Rattle.std.proofs.lemmas.List.Edits.{sets}

-- the codes of a text's characters
abbrev pub text : String → List ℕ
text empty = []
text (c ◂ s) = code c ∷ text s

-- a digit below 10
abbrev pub digit : ℕ → List ℕ
digit d = (48 + d) ∷ []

-- the digits in front of the last one, at most k of them, are those of n / 10
unfoldable pub digits_by : ℕ → ℕ → List ℕ
digits_by zero n = digit n
digits_by (suc k) n = cond (ltb n 10) (digit n) (digits_by k (n / 10) ++ digit (n % 10))

-- 20 digits hold every number of 64 bits
unfoldable pub decimal : ℕ → List ℕ
decimal n = digits_by 19 n

abbrev pub signed : ℤ → List ℕ
signed (pos n) = decimal n
signed (negsuc n) = text "-" ++ decimal (suc n)

-- a buffer that was l is now d: the text t stands in it from a place up to another, and all else is as it was
pub record Puts (l : List ℕ) (at : ℕ) (t d : List ℕ) (n : ℕ) : Type 0 where
  pub end : n ≡ at + length t
  pub stored : d ≡ sets l at t

-- ---- worked examples
decimals :
    (decimal 0 ≡ text "0")
    × (decimal 7 ≡ text "7")
    × (decimal 10 ≡ text "10")
    × (decimal 65535 ≡ text "65535")
    × (decimal 2147483647 ≡ text "2147483647")
    × (decimal 18446744073709551615 ≡ text "18446744073709551615")
unfolding digits_by decimal
decimals = (refl, refl, refl, refl, refl, refl)

-- -1, and the lowest word
negatives : (signed (negsuc 0) ≡ text "-1") × (signed (negsuc 2147483646) ≡ text "-2147483647")
unfolding digits_by decimal
negatives = (refl, refl)
