-- What `bound_of` says: where it is `Some b`, b is B_0 and every B is in range.
use Rattle.whole.proofs.Basics.{◌≡◌, ◌∙◌, refl, sym, ap, Bool, true, false, cond, List, [], ◌∷◌, ℕ, suc, zero, ◌+◌, ◌*◌, ◌≤◌, ◌<◌, arith, ltb, length, drop, get_or, ℤ, pos, nat_abs, ltb-false, lt-ltb, le-ltb}
use native.Mathlib.Nat.{mul-le-mul_left}
use lib.ListN.{drop_of_length-le}
use lib.Seq.{drop-cons}
use Rattle.word.specs.Words.{unit, bound_product}
use Rattle.word.proofs.RoundedLaws.{up_least}
use Rattle.word.proofs.WordLaws.{unit-pos}
use Rattle.word.specs.Lists.{Words}
use Rattle.admission.proofs.AdmissionLaws.{left_not}
use Rattle.polynomial.specs.Polynomial.{bound, bounded, bound_next, bound_of, when_within, InRange}
use Rattle.admission.specs.Admission.{Admission, granted}
use Rattle.std.specs.Prelude.{None, Option, Some}

pub bounded_yes : (b : ℕ) → 2147483647 < b → bounded b ≡ None
bounded_yes b h = ap (λ (t : Bool). cond t None (Some b)) (lt-ltb 2147483647 b h)

pub bounded_no : (b : ℕ) → b ≤ 2147483647 → bounded b ≡ Some b
bounded_no b h = ap (λ (t : Bool). cond t None (Some b)) (le-ltb 2147483647 b h)

-- ---- `Some` told apart from `None`
held_in : Option ℕ → ℕ
held_in (Some b) = b
held_in None = 0

is_within : Option ℕ → ℕ
is_within (Some b) = 1
is_within None = 0

pub beyond_not : {b : ℕ} → None ≡ Some b → ⊥
unfolding is_within
beyond_not e = absurd (omega (arith, ap is_within e))

bounded_out : (t : Bool) (n b : ℕ) → cond t None (Some n) ≡ Some b → (t ≡ false) × (n ≡ b)
unfolding held_in
bounded_out true n b e = absurd (beyond_not e)
bounded_out false n b e = (refl, ap held_in e)

-- ---- one coefficient more
record NextOut (s A : ℕ) (c : ℤ) (r : Option ℕ) (b : ℕ) : Type 0 where
  old : ℕ
  was : r ≡ Some old
  is : b ≡ nat_abs c + bound_product s old A
  most : b ≤ 2147483647

next_out : (s A : ℕ) (c : ℤ) (r : Option ℕ) (b : ℕ) → bound_next s A c r ≡ Some b → NextOut s A c r b
next_out s A c (Some o) b e =
    let n = nat_abs c + bound_product s o A in
    let q = bounded_out (ltb 2147483647 n) n b e in
    record { old = o; was = refl; is = sym q.1; most = omega (arith, ltb-false 2147483647 n q.0, q.1) }
next_out s A c None b e = absurd (beyond_not e)

-- ---- of the whole list
pub within_is : (s A : ℕ) (ws : List ℤ) (b : ℕ) → bound_of s A ws ≡ Some b → b ≡ bound s A ws
unfolding bound_of bound held_in
within_is s A [] b e = sym (ap held_in e)
within_is s A (c ∷ cs) b e =
    let q = next_out s A c (bound_of s A cs) b e in
    q.is ∙ ap (λ (k : ℕ). nat_abs c + bound_product s k A) (within_is s A cs q.old q.was)

pub within_most : (s A : ℕ) (ws : List ℤ) (b : ℕ) → bound_of s A ws ≡ Some b → b ≤ 2147483647
unfolding bound_of held_in
within_most s A [] b e = omega (arith, ap held_in e)
within_most s A (c ∷ cs) b e = (next_out s A c (bound_of s A cs) b e).most

none : (s A k : ℕ) → bound s A (drop k []) ≤ 2147483647
unfolding bound
none s A zero = omega arith
none s A (suc k) = omega arith

pub within_range : (s A : ℕ) (ws : List ℤ) (b : ℕ) → bound_of s A ws ≡ Some b → InRange s A ws
unfolding bound_of
within_range s A [] b e k = none s A k
within_range s A (c ∷ cs) b e zero = omega (arith, within_is s A (c ∷ cs) b e, within_most s A (c ∷ cs) b e)
within_range s A (c ∷ cs) b e (suc k) = let q = next_out s A c (bound_of s A cs) b e in within_range s A cs q.old q.was k

-- so every coefficient is a word
pub within_words : (s A : ℕ) (ws : List ℤ) (b : ℕ) → bound_of s A ws ≡ Some b → Words ws
unfolding bound_of
within_words s A [] b e i = omega arith
within_words s A (c ∷ cs) b e zero = let q = next_out s A c (bound_of s A cs) b e in omega (arith, q.is, q.most)
within_words s A (c ∷ cs) b e (suc i) = let q = next_out s A c (bound_of s A cs) b e in within_words s A cs q.old q.was i

-- of an admitted chain
pub within_out : (r : Option ℕ) (next : ℕ → Admission) → when_within r next ≡ granted → (b : ℕ) × (r ≡ Some b) × (next b ≡ granted)
within_out (Some b) next e = (b, refl, e)
within_out None next e = absurd (left_not e)

-- ---- from the last coefficient down, as a loop meets them
pub bound_none : (s A : ℕ) (ws : List ℤ) → bound_of s A (drop (length ws) ws) ≡ Some 0
unfolding bound_of
bound_none s A ws = ap (bound_of s A) (drop_of_length-le ws {i = length ws} (omega arith))

pub bound_step : (s A : ℕ) (ws : List ℤ) (i : ℕ) → i < length ws → bound_of s A (drop i ws) ≡ bound_next s A (get_or ws i (pos 0)) (bound_of s A (drop (suc i) ws))
unfolding bound_of
bound_step s A ws i h = ap (bound_of s A) (drop-cons ws i (pos 0) h)

pub bound_turn : (s A : ℕ) (ws : List ℤ) (j i b n : ℕ) → j ≡ suc i → i < length ws → bound_of s A (drop j ws) ≡ Some b → n ≡ nat_abs (get_or ws i (pos 0)) + bound_product s b A → bound_of s A (drop i ws) ≡ bounded n
bound_turn s A ws j i b n e h f g =
    bound_step s A ws i h
    ∙ ap (bound_next s A (get_or ws i (pos 0))) (ap (λ (k : ℕ). bound_of s A (drop k ws)) (sym e) ∙ f)
    ∙ ap bounded (sym g)

-- what is beyond at some coefficient is beyond at the first
pub beyond_first : (s A : ℕ) (ws : List ℤ) (i : ℕ) → i < length ws → bound_of s A (drop i ws) ≡ None → bound_of s A ws ≡ None
beyond_first s A ws zero h e = e
beyond_first s A ws (suc i) h e = beyond_first s A ws i (omega arith) (bound_step s A ws i (omega arith) ∙ ap (bound_next s A (get_or ws i (pos 0))) e)

-- a bound product is no larger than the product of whole numbers
pub bound_product_most : (s a b : ℕ) → bound_product s a b ≤ a * b
bound_product_most s a b = up_least (a * b) (unit s) (a * b) (unit-pos s) (omega (arith, mul-le-mul_left (a * b) (unit-pos s)))
