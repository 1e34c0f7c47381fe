-- Halves of 16 bits: a number by its halves, and what products of halves come to.
use Rattle.std.specs.Prelude.{◌≡◌, ℕ, ◌+◌, ◌*◌, ◌/◌, ◌%◌, ◌^◌, ◌≤◌, refl}
use Rattle.std.proofs.Common.{arith, lit≤}
use Rattle.multiply.specs.declared.Halves.{Halves}

-- the upper and the lower 16 binary digits
abbrev pub halves_of : ℕ → Halves
halves_of a = record { high = a / 2 ^ 16; low = a % 2 ^ 16 }

-- no more than a product of two halves can be
abbrev pub OfHalves : ℕ → Type 0
OfHalves n = n ≤ 65535 * 65535

-- what stands below the product of the upper halves: the two middle products, 16 digits up, and the product of the lower halves
abbrev pub middle_and_low : ℕ → ℕ → ℕ → ℕ
middle_and_low first second low = (first + second) * 2 ^ 16 + low

-- ---- worked examples: 0, the last number of one half and the one after it, the largest of 32 bits, and one whose halves differ
halved :
    (halves_of 0 ≡ record { high = 0; low = 0 })
    × (halves_of 65535 ≡ record { high = 0; low = 65535 })
    × (halves_of 65536 ≡ record { high = 1; low = 0 })
    × (halves_of 4294967295 ≡ record { high = 65535; low = 65535 })
    × (halves_of 196613 ≡ record { high = 3; low = 5 })
halved = (refl, refl, refl, refl, refl)

-- the largest product of halves, and one more
largest_product : OfHalves 4294836225
largest_product = lit≤ tt

beyond_it : OfHalves 4294836226 → ⊥
beyond_it h = omega arith

-- (3·2^16 + 5)·(7·2^16 + 11) is 21·2^32 and this
by_halves : (middle_and_low 33 35 55 ≡ 4456503) × (21 * 2 ^ 32 + middle_and_low 33 35 55 ≡ 196613 * 458763)
by_halves = (refl, refl)

-- the square of the largest number: here it passes 32 digits, and something is carried
largest_by_halves :
    (middle_and_low 4294836225 4294836225 4294836225 ≡ 562937068519425)
    × (4294836225 * 2 ^ 32 + middle_and_low 4294836225 4294836225 4294836225 ≡ 4294967295 * 4294967295)
largest_by_halves = (refl, refl)
