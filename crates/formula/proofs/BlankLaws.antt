-- All zero: of words in bytes, one behind the other; and of a list, that each number is zero, or that one is not.
use Rattle.whole.proofs.Basics.{◌≡◌, ◌∙◌, refl, sym, ap, subst, Bool, true, false, cond, List, [], ◌∷◌, ℕ, suc, zero, ◌+◌, ◌-◌, ◌*◌, ◌≤◌, ◌<◌, arith, T, eqb, take, get_or, ℤ, pos, negsuc, nat_abs, w32, SFits, of_z, eqb-true, eqb-false, ne_eqb}
use Rattle.stored.specs.Numbers.{word4}
use Rattle.stored.specs.Words.{words}
use Rattle.stored.proofs.WordsLaws.{words_take}
use Rattle.formula.specs.Blank.{all_zero, SomeNotZero}

-- ---- in bytes

-- the words that are still to come: the next, and those behind it
pub next_zero : (b : List ℕ) (at m i : ℕ) → i < m
    → all_zero (words b (at + 4 * i) (m - i)) ≡ cond (eqb (nat_abs (word4 b (at + 4 * i))) 0) (all_zero (words b (at + 4 * (i + 1)) (m - (i + 1)))) false
unfolding words all_zero
next_zero b at m i h =
    let n : m - i ≡ suc (m - (i + 1)) = omega arith in
    let p : at + 4 * (i + 1) ≡ at + 4 * i + 4 = omega arith in
    rw (n, p) refl

-- a word is zero where its pattern is
pub zero_pattern : (z : ℤ) → SFits w32 z → eqb (nat_abs z) 0 ≡ eqb (of_z w32 z) 0
zero_pattern (pos n) f = refl
zero_pattern (negsuc n) f = ne_eqb (suc n) 0 (λ e. omega (arith, e)) ∙ sym (ne_eqb (of_z w32 (negsuc n)) 0 (λ e. omega (arith, f.sfits, e)))

-- the first n of m words
pub first_zero : (b : List ℕ) (at n m : ℕ) → n ≤ m → all_zero (words b at n) ≡ all_zero (take n (words b at m))
first_zero b at n m h =
    let e : m ≡ n + (m - n) = omega arith in
    ap all_zero (sym (ap (λ (k : ℕ). take n (words b at k)) e ∙ words_take b at n (m - n)))

-- ---- of a whole list

-- the first number is zero, and the others are
pub first_and_rest : (z : ℤ) (zs : List ℤ) → all_zero (z ∷ zs) ≡ true → (nat_abs z ≡ 0) × (all_zero zs ≡ true)
unfolding all_zero
first_and_rest z zs e = at (eqb (nat_abs z) 0) refl e
  where
    at : (t : Bool) → eqb (nat_abs z) 0 ≡ t → cond t (all_zero zs) false ≡ true → (nat_abs z ≡ 0) × (all_zero zs ≡ true)
    at true q h = (eqb-true _ _ q, h)
    at false q h = absurd (subst T (sym h) tt)

pub each_zero : (ws : List ℤ) → all_zero ws ≡ true → (i : ℕ) → nat_abs (get_or ws i (pos 0)) ≡ 0
each_zero [] e i = refl
each_zero (z ∷ zs) e zero = (first_and_rest z zs e).0
each_zero (z ∷ zs) e (suc i) = each_zero zs (first_and_rest z zs e).1 i

pub some_not_zero : (ws : List ℤ) → all_zero ws ≡ false → SomeNotZero ws
unfolding all_zero
some_not_zero [] e = absurd (subst T e tt)
some_not_zero (z ∷ zs) e = at (some_not_zero zs) (eqb (nat_abs z) 0) refl e
  where
    further : SomeNotZero zs → SomeNotZero (z ∷ zs)
    further h = record { place = suc h.place; within = omega (arith, h.within); not_zero = h.not_zero }

    at : (all_zero zs ≡ false → SomeNotZero zs) → (t : Bool) → eqb (nat_abs z) 0 ≡ t → cond t (all_zero zs) false ≡ false → SomeNotZero (z ∷ zs)
    at later true q h = further (later h)
    at later false q h = record { place = 0; within = omega arith; not_zero = omega (arith, eqb-false (nat_abs z) 0 q) }
