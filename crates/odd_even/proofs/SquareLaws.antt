-- What `bound_at_square` says: where it is `Some b`, S is in range and b is the polynomial's B_0 with S in place of A.
use Rattle.whole.proofs.Basics.{◌≡◌, refl, Bool, true, false, cond, List, ℕ, ◌≤◌, ◌<◌, ltb, ℤ, ltb-false, lt-ltb, le-ltb}
use Rattle.word.specs.Words.{largest, bound_product}
use Rattle.polynomial.specs.Polynomial.{bound_of}
use Rattle.polynomial.proofs.BoundLaws.{beyond_not}
use Rattle.odd_even.specs.OddEven.{bound_at_square}
use Rattle.std.specs.Prelude.{None, Some}

module _ (s A : ℕ) (ws : List ℤ) where
  -- as the code meets it, with S worked out as n
  pub beyond_square : (n : ℕ) → n ≡ bound_product s A A → largest < n → None ≡ bound_at_square s A ws
  beyond_square n e h = rw (← e, lt-ltb largest n h) refl

  pub within_square : (n : ℕ) → n ≡ bound_product s A A → n ≤ largest → bound_of s n ws ≡ bound_at_square s A ws
  within_square n e h = rw (← e, le-ltb largest n h) refl

  pub square_told : (b : ℕ) → bound_at_square s A ws ≡ Some b → (bound_product s A A ≤ largest) × (bound_of s (bound_product s A A) ws ≡ Some b)
  square_told b e = at (ltb largest (bound_product s A A)) refl e
    where
      at : (t : Bool) → ltb largest (bound_product s A A) ≡ t → cond t None (bound_of s (bound_product s A A) ws) ≡ Some b → (bound_product s A A ≤ largest) × (bound_of s (bound_product s A A) ws ≡ Some b)
      at true q f = absurd (beyond_not f)
      at false q f = (ltb-false largest (bound_product s A A) q, f)
