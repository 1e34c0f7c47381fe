-- Demand 3 for the kinds `odd` and `even`: of an admitted formula, at every argument of the interval, each number on the way is a word. S bounds
-- the square, so the polynomial's own law holds at the square; B_0 and A bound what the last product is made of.
use Rattle.whole.proofs.Basics.{◌≡◌, List, ℕ, ◌≤◌, ◌<◌, arith, length, ℤ, nat_abs}
use Rattle.word.specs.Words.{largest, Word, Scale, bound_product}
use Rattle.word.specs.Lists.{All, Words}
use Rattle.word.proofs.WordLaws.{product_within, square_within}
use Rattle.admission.specs.Admission.{ranged, granted}
use Rattle.admission.proofs.AdmissionLaws.{ranged_out}
use Rattle.polynomial.specs.Polynomial.{InRange}
use Rattle.polynomial.proofs.WalkLaws.{running_size, in_range_less}
use Rattle.polynomial.proofs.BoundLaws.{within_is, within_range, within_words, within_out}
use Rattle.polynomial.proofs.StaysInRange.{numbers_in_range}
use Rattle.odd_even.specs.OddEven.{square_of, even_of, odd_of, even_numbers, odd_numbers, bound_at_square, even_admission, odd_admission, EvenReady, OddReady}
use Rattle.odd_even.proofs.SquareLaws.{square_told}
use Rattle.std.specs.Prelude.{Some}

-- ---- what an admission has found: B_0 within range
pub even_within : (s A : ℕ) (ws : List ℤ) → even_admission s A ws ≡ granted → (b : ℕ) × (bound_at_square s A ws ≡ Some b)
even_within s A ws e = let w = within_out (bound_at_square s A ws) (λ b. granted) e in (w.0, w.1)

pub odd_within : (s A : ℕ) (ws : List ℤ) → odd_admission s A ws ≡ granted → (b : ℕ) × (bound_at_square s A ws ≡ Some b) × (bound_product s b A ≤ largest)
odd_within s A ws e =
    let w = within_out (bound_at_square s A ws) (λ b. ranged (bound_product s b A) granted) e in
    (w.0, w.1, (ranged_out (bound_product s w.0 A) granted w.2).0)

-- every coefficient is then a word
pub square_words : (s A : ℕ) (ws : List ℤ) (b : ℕ) → bound_at_square s A ws ≡ Some b → Words ws
square_words s A ws b e = within_words s (bound_product s A A) ws b (square_told s A ws b e).1

-- ---- at an argument
module _ (s A : ℕ) (ws : List ℤ) (x : ℤ) (h : nat_abs x ≤ A) (b : ℕ) (e : bound_at_square s A ws ≡ Some b) where
  square_word : Word (square_of s x)
  square_word = omega (arith, square_within s A x h, (square_told s A ws b e).0)

  in_range : InRange s (bound_product s A A) ws
  in_range = within_range s (bound_product s A A) ws b (square_told s A ws b e).1

  even_numbers_lem : All Word (even_numbers s ws x)
  even_numbers_lem = (square_word, numbers_in_range s (bound_product s A A) ws (square_of s x) (square_within s A x h) in_range)

  odd_word : bound_product s b A ≤ largest → Word (odd_of s ws x)
  odd_word l =
      let r = running_size s (bound_product s A A) ws (square_of s x) (square_within s A x h) in
      let i = within_is s (bound_product s A A) ws b (square_told s A ws b e).1 in
      omega (arith, product_within s (even_of s ws x) x b A (omega (arith, r, i)) h, l)

  -- what the answers ask for
  ready : Scale s → Word x → 0 < length ws → EvenReady s ws x
  ready c w n = (w, (c, square_word, n, in_range_less s (nat_abs (square_of s x)) (bound_product s A A) ws (square_within s A x h) in_range))

-- ---- of an admitted formula
module _ (s A : ℕ) (ws : List ℤ) (x : ℤ) (h : nat_abs x ≤ A) where
  pub even_stays : even_admission s A ws ≡ granted → All Word (even_numbers s ws x)
  even_stays e = let w = even_within s A ws e in even_numbers_lem s A ws x h w.0 w.1

  pub odd_stays : odd_admission s A ws ≡ granted → All Word (odd_numbers s ws x)
  odd_stays e = let w = odd_within s A ws e in (odd_word s A ws x h w.0 w.1 w.2, even_numbers_lem s A ws x h w.0 w.1)

  pub even_ready : Scale s → Word x → 0 < length ws → even_admission s A ws ≡ granted → EvenReady s ws x
  even_ready c v n e = let w = even_within s A ws e in ready s A ws x h w.0 w.1 c v n

  pub odd_ready : Scale s → Word x → 0 < length ws → odd_admission s A ws ≡ granted → OddReady s ws x
  odd_ready c v n e = let w = odd_within s A ws e in (ready s A ws x h w.0 w.1 c v n, odd_word s A ws x h w.0 w.1 w.2)
