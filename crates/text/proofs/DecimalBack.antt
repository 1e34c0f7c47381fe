-- Promise: the digits of a number of 64 bits, read from the left, are that number, and the first of several is not 0.
use Rattle.whole.proofs.Basics.{◌≡◌, ◌∙◌, refl, Bool, true, false, cond, List, [], ◌∷◌, ◌++◌, ℕ, suc, zero, ◌+◌, ◌-◌, ◌*◌, ◌/◌, ◌%◌, ◌^◌, ◌<◌, arith, ltb, ltb-false}
use native.Mathlib.Nat.{pow-suc}
use Rattle.text.specs.Text.{digit, digits_by, decimal}

-- the number that digits stand for, after those in front of them have given n
abbrev pub number_from : ℕ → List ℕ → ℕ
number_from n [] = n
number_from n (d ∷ ds) = number_from (10 * n + (d - 48)) ds

number_append : (ds es : List ℕ) (n : ℕ) → number_from n (ds ++ es) ≡ number_from (number_from n ds) es
number_append [] es n = refl
number_append (d ∷ ds) es n = number_append ds es (10 * n + (d - 48))

back : (k n : ℕ) → n < 10 ^ suc k → number_from 0 (digits_by k n) ≡ n
unfolding digits_by
back zero n h = omega arith
back (suc k) n h = at (ltb n 10) (back k (n / 10) (omega (arith, h, pow-suc 10 (suc k))))
  where
    at : (t : Bool) → number_from 0 (digits_by k (n / 10)) ≡ n / 10 → number_from 0 (cond t (digit n) (digits_by k (n / 10) ++ digit (n % 10))) ≡ n
    at true e = omega arith
    at false e = number_append (digits_by k (n / 10)) (digit (n % 10)) 0 ∙ omega (arith, e)

pub decimal_back : (n : ℕ) → n < 18446744073709551616 → number_from 0 (decimal n) ≡ n
unfolding decimal
decimal_back n h = back 19 n (omega (arith, h))

-- the first of some digits
abbrev pub leading : List ℕ → ℕ
leading [] = 0
leading (d ∷ ds) = d - 48

leading-append : (ds es : List ℕ) → 0 < leading ds → 0 < leading (ds ++ es)
leading-append [] es h = absurd (omega (arith, h))
leading-append (d ∷ ds) es h = h

lead : (k n : ℕ) → 0 < n → 0 < leading (digits_by k n)
unfolding digits_by
lead zero n h = omega (arith, h)
lead (suc k) n h = at (ltb n 10) refl (lead k (n / 10))
  where
    at : (t : Bool) → ltb n 10 ≡ t → (0 < n / 10 → 0 < leading (digits_by k (n / 10))) → 0 < leading (cond t (digit n) (digits_by k (n / 10) ++ digit (n % 10)))
    at true e f = omega (arith, h)
    at false e f = leading-append (digits_by k (n / 10)) (digit (n % 10)) (f (omega (arith, ltb-false n 10 e)))

pub no_leading_zero : (n : ℕ) → 0 < n → 0 < leading (decimal n)
unfolding decimal
no_leading_zero n h = lead 19 n h
