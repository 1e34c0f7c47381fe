-- When a product or a quotient is exact: nothing was rounded off.
use Rattle.std.specs.Prelude.{◌≡◌, refl, Bool, true, false, cond, ℕ, ◌%◌, ◌^◌, eqb, ℤ, pos, negsuc, nat_abs, ◌*ℤ◌}
use Rattle.word.specs.Words.{unit}

-- d divides m: the division leaves nothing
abbrev pub divides : ℕ → ℤ → Bool
divides d m = eqb (nat_abs m % d) 0

-- 2^s divides a·b
abbrev pub exact_product : ℕ → ℤ → ℤ → Bool
exact_product s a b = divides (unit s) (a *ℤ b)

-- d divides a·2^s
abbrev pub exact_quotient : ℕ → ℤ → ℤ → Bool
exact_quotient s a d = divides (nat_abs d) (a *ℤ pos (unit s))

-- the product of x with itself counts where a rule uses it
abbrev pub square_exact : Bool → ℕ → ℤ → Bool
square_exact used s x = cond used (exact_product s x x) true

-- ---- how the functions tell it: the last s binary digits of a number are 0. Of several numbers joined by `or` they are where each one's are
abbrev pub whole_at : ℕ → ℕ → Bool
whole_at s loose = divides (2 ^ s) (pos loose)

-- ---- worked examples: minus a half times one and a half is exact, half a step is not; one step times one, and just under one and just above it
products :
    (exact_product 24 (negsuc 8388607) (pos 25165824) ≡ true)
    × (exact_product 24 (pos 1) (pos 8388608) ≡ false)
    × (exact_product 24 (pos 1) (pos 16777216) ≡ true)
    × (exact_product 24 (pos 1) (pos 16777215) ≡ false)
    × (exact_product 24 (pos 1) (pos 16777217) ≡ false)
products = (refl, refl, refl, refl, refl)

-- a step times one at 16 places; at 28 a step times a half, and three steps by one
at_other_places : (exact_product 16 (pos 1) (pos 65536) ≡ true) × (exact_product 28 (pos 1) (pos 134217728) ≡ false) × (exact_quotient 28 (pos 3) (pos 268435456) ≡ true)
at_other_places = (refl, refl, refl)

-- three quarters by minus three is exact, one by three is not; a step by two is half a step, and minus two steps by two are minus one
quotients :
    (exact_quotient 24 (pos 12582912) (negsuc 50331647) ≡ true)
    × (exact_quotient 24 (pos 16777216) (pos 50331648) ≡ false)
    × (exact_quotient 24 (pos 1) (pos 33554432) ≡ false)
    × (exact_quotient 24 (negsuc 1) (pos 33554432) ≡ true)
quotients = (refl, refl, refl, refl)

-- nothing times anything is exact, and nothing by anything
of_zero : (exact_product 24 (pos 0) (pos 1) ≡ true) × (exact_quotient 24 (pos 0) (negsuc 2) ≡ true)
of_zero = (refl, refl)

-- the square of one step is rounded, where it is used
square_of_a_step : (square_exact true 24 (pos 1) ≡ false) × (square_exact false 24 (pos 1) ≡ true) × (square_exact true 24 (pos 4096) ≡ true)
square_of_a_step = (refl, refl, refl)

-- the last four digits of 48 are 0, and not the fifth; of 49 not the last
digits : (whole_at 4 48 ≡ true) × (whole_at 5 48 ≡ false) × (whole_at 4 49 ≡ false)
digits = (refl, refl, refl)
