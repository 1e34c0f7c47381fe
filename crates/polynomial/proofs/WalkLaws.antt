-- The walk over the coefficients, and how large its numbers can be.
use Rattle.whole.proofs.Basics.{◌≡◌, ◌∙◌, ap, List, [], ◌∷◌, ℕ, suc, ◌+◌, ◌-◌, ◌≤◌, ◌<◌, arith, length, drop, get_or, ℤ, pos, nat_abs, ◌+ℤ◌}
use native.Mathlib.Nat.{le_refl}
use lib.IntN.{+ℤ_idr}
use lib.ListN.{drop_of_length-le}
use lib.Seq.{drop-cons}
use Rattle.whole.proofs.Order.{abs_add}
use Rattle.word.specs.Words.{Word, product_of, bound_product}
use Rattle.word.proofs.WordLaws.{product_within, product_zero, bound_mono}
use Rattle.polynomial.specs.Polynomial.{horner, bound, InRange}

-- ---- the walk from the last coefficient down, as a loop meets it
pub horner_one : (s : ℕ) (c x : ℤ) → horner s (c ∷ []) x ≡ c
unfolding horner
horner_one s c x = ap (λ (z : ℤ). c +ℤ z) (product_zero s x) ∙ +ℤ_idr c

pub horner-drop : (s : ℕ) (ws : List ℤ) (i : ℕ) (x : ℤ) → i < length ws → horner s (drop i ws) x ≡ get_or ws i (pos 0) +ℤ product_of s (horner s (drop (suc i) ws) x) x
unfolding horner
horner-drop s ws i x h = ap (λ (l : List ℤ). horner s l x) (drop-cons ws i (pos 0) h)

pub horner_last : (s : ℕ) (ws : List ℤ) (x : ℤ) → 0 < length ws → horner s (drop (length ws - 1) ws) x ≡ get_or ws (length ws - 1) (pos 0)
horner_last s ws x h =
    let last = length ws - 1 in
    ap (λ (l : List ℤ). horner s l x) (drop-cons ws last (pos 0) (omega arith) ∙ ap (λ (l : List ℤ). get_or ws last (pos 0) ∷ l) (drop_of_length-le ws {i = suc last} (omega arith)))
    ∙ horner_one s (get_or ws last (pos 0)) x

bound-drop : (s A : ℕ) (ws : List ℤ) (i : ℕ) → i < length ws → bound s A (drop i ws) ≡ nat_abs (get_or ws i (pos 0)) + bound_product s (bound s A (drop (suc i) ws)) A
unfolding bound
bound-drop s A ws i h = ap (bound s A) (drop-cons ws i (pos 0) h)

-- ---- B bounds the running word, and the bound product of B and A the product
pub running_size : (s A : ℕ) (cs : List ℤ) (x : ℤ) → nat_abs x ≤ A → nat_abs (horner s cs x) ≤ bound s A cs
unfolding horner bound
running_size s A [] x h = omega arith
running_size s A (c ∷ cs) x h = omega (arith, abs_add c (product_of s (horner s cs x) x), product_within s (horner s cs x) x (bound s A cs) A (running_size s A cs x h) h)

pub product_bound : (s A : ℕ) (cs : List ℤ) (x : ℤ) → nat_abs x ≤ A → nat_abs (product_of s (horner s cs x) x) ≤ bound_product s (bound s A cs) A
product_bound s A cs x h = product_within s (horner s cs x) x (bound s A cs) A (running_size s A cs x h) h

-- B grows with A
bound_grows : (s A A' : ℕ) (ws : List ℤ) → A ≤ A' → bound s A ws ≤ bound s A' ws
unfolding bound
bound_grows s A A' [] h = omega arith
bound_grows s A A' (c ∷ cs) h = omega (arith, bound_mono s (bound s A cs) A (bound s A' cs) A' (bound_grows s A A' cs h) h)

pub in_range_less : (s A A' : ℕ) (ws : List ℤ) → A ≤ A' → InRange s A' ws → InRange s A ws
in_range_less s A A' ws h f k = omega (arith, bound_grows s A A' (drop k ws) h, f k)

-- ---- so all that the walk reads and forms is a word
module _ (s : ℕ) (ws : List ℤ) (x : ℤ) (inside : InRange s (nat_abs x) ws) where
  pub running_word : (k : ℕ) → Word (horner s (drop k ws) x)
  running_word k = omega (arith, running_size s (nat_abs x) (drop k ws) x (le_refl (nat_abs x)), inside k)

  pub coefficient_word : (i : ℕ) → i < length ws → Word (get_or ws i (pos 0))
  coefficient_word i h = omega (arith, bound-drop s (nat_abs x) ws i h, inside i)

  pub product_word : (i : ℕ) → i < length ws → Word (product_of s (horner s (drop (suc i) ws) x) x)
  product_word i h = omega (arith, bound-drop s (nat_abs x) ws i h, inside i, product_bound s (nat_abs x) (drop (suc i) ws) x (le_refl (nat_abs x)))
