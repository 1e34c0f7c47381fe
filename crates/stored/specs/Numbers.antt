-- Numbers in a list of bytes, the lowest byte first. Past the end a byte counts as 0.
use Rattle.std.specs.Prelude.{ℕ, ◌+◌, ◌*◌, ◌/◌, ◌%◌, ◌<◌, ◌≡◌, refl, List, [], ◌∷◌, get_or, ℤ, negsuc}
use Rattle.std.specs.Int.{w32}
use Rattle.std.proofs.Common.{to_z, of_z}

-- each is a byte
abbrev pub Bytes : List ℕ → Type 0
Bytes s = (k : ℕ) → get_or s k 0 < 256

unfoldable pub number2 : List ℕ → ℕ → ℕ
number2 s at = get_or s at 0 + 256 * get_or s (at + 1) 0

unfoldable pub number4 : List ℕ → ℕ → ℕ
number4 s at = get_or s at 0 + 256 * get_or s (at + 1) 0 + 65536 * get_or s (at + 2) 0 + 16777216 * get_or s (at + 3) 0

-- the signed number of a four-byte pattern, in two's complement
abbrev pub word4 : List ℕ → ℕ → ℤ
word4 s at = to_z w32 (number4 s at)

-- and the pattern of a signed number
abbrev pub pattern : ℤ → ℕ
pattern z = of_z w32 z

unfoldable pub bytes2 : ℕ → List ℕ
bytes2 n = n % 256 ∷ n / 256 % 256 ∷ []

unfoldable pub bytes4 : ℕ → List ℕ
bytes4 n = n % 256 ∷ n / 256 % 256 ∷ n / 65536 % 256 ∷ n / 16777216 % 256 ∷ []

-- ---- worked examples: the lowest byte comes first, and the top bit is the sign
lowest_first : (number4 (1 ∷ 2 ∷ 3 ∷ 4 ∷ []) 0 ≡ 67305985) × (number2 (1 ∷ 2 ∷ []) 0 ≡ 513)
unfolding number2 number4
lowest_first = (refl, refl)

all_ones : word4 (255 ∷ 255 ∷ 255 ∷ 255 ∷ []) 0 ≡ negsuc 0
unfolding number4
all_ones = refl

stored : (bytes4 67305985 ≡ 1 ∷ 2 ∷ 3 ∷ 4 ∷ []) × (bytes2 513 ≡ 1 ∷ 2 ∷ [])
unfolding bytes2 bytes4
stored = (refl, refl)
