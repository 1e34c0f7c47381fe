-- One term of a continued fraction's admission, and what admission asks of its callers.
use Rattle.std.specs.Prelude.{◌≡◌, refl, cond, ℕ, ◌+◌, ◌-◌, ◌<◌, ltb, ℤ, pos, negsuc, nat_abs, None, Option, Some}
use Rattle.word.specs.Rounded.{rounded_up}
use Rattle.word.specs.Words.{largest, Scale}
use Rattle.fraction.specs.Admission.{g_bound, q_bound}

-- one term of the walk of `admit_from`: the next L, or that the range may be left
abbrev pub term_bound : ℕ → ℤ → ℤ → ℕ → ℕ → Option ℕ
term_bound s a b v L =
    cond (ltb largest (g_bound s a v)) None
    (cond (ltb largest (nat_abs b + q_bound s a v L)) None
    (Some (nat_abs b - q_bound s a v L)))

-- the same of stored numbers: an a that is no word might stand beside a v of 0, and so be missed
abbrev pub judged_term : ℕ → ℤ → ℤ → ℕ → ℕ → Option ℕ
judged_term s a b v L = cond (ltb largest (nat_abs a)) None (term_bound s a b v L)

-- ---- what the functions ask of their callers
abbrev pub TermAsked : ℕ → ℕ → Type 0
TermAsked s l = Scale s × (0 < l)

abbrev pub AdmissionAsked : ℕ → ℕ → Type 0
AdmissionAsked s k = Scale s × (0 < k)

-- ---- worked examples: the inner term of x/(1 - x/3), at x = 2 and L = 3: 1 less 2/3, rounded up, is left; with b at M, the sum leaves the range
one_term :
    (term_bound 24 (negsuc 16777215) (pos 16777216) 33554432 50331648 ≡ Some 5592405)
    × (term_bound 24 (negsuc 16777215) (pos 2147483647) 33554432 50331648 ≡ None)
unfolding rounded_up
one_term = (refl, refl)
