-- The walk outward, step by step, as the code meets it.
use Rattle.whole.proofs.Basics.{◌≡◌, refl, sym, cond, List, [], ℕ, suc, zero, ◌+◌, ◌*◌, ◌≤◌, ◌<◌, arith, eqb, length, get_or, ℤ, nat_abs, ne_eqb}
use Rattle.word.specs.Words.{Word}
use Rattle.stored.specs.Words.{value, values}
use Rattle.stored.proofs.ValuesLaws.{values_at}
use Rattle.fraction.specs.Fraction.{b_at, a_after, at, first_of, rest_of, next_of, outward, outward_numbers, outward_divisors}
use Rattle.fraction.specs.Ready.{StepReady, OutwardReady}

-- ---- where b_i and a_(i+1) stand
pub b_is : (words : List (List ℕ)) (i : ℕ) → i + i < length words → value (get_or words (2 * i) []) ≡ b_at (values words) i
b_is words i h = let e : 2 * i ≡ i + i = omega arith in rw e (sym (values_at words (i + i) h))

pub a_is : (words : List (List ℕ)) (i : ℕ) → i + i + 1 < length words → value (get_or words (2 * i + 1) []) ≡ a_after (values words) i
a_is words i h = let e : 2 * i ≡ i + i = omega arith in rw e (sym (values_at words (i + i + 1) h))

-- ---- the choice of v, and v1 and the other v's by the mode, each as one test
pub at_is : {A : Type 0} (first rest : A) (i : ℕ) → at first rest i ≡ cond (eqb i 0) first rest
at_is first rest zero = refl
at_is first rest (suc i) = rw (ne_eqb (suc i) 0 (λ e. omega arith))

pub rest_is : {A : Type 0} (x q : A) (m : ℕ) → rest_of m x q ≡ cond (eqb m 0) x q
rest_is x q zero = refl
rest_is x q (suc m) = rw (ne_eqb (suc m) 0 (λ e. omega arith))

pub first_is : {A : Type 0} (x q : A) (m : ℕ) → first_of m x q ≡ cond (eqb m 1) q x
first_is x q zero = refl
first_is x q (suc zero) = refl
first_is x q (suc (suc m)) = rw (ne_eqb (suc (suc m)) 1 (λ e. omega arith))

pub at_size : (i : ℕ) (x y : ℤ) (X Y : ℕ) → nat_abs x ≤ X → nat_abs y ≤ Y → nat_abs (at x y i) ≤ at X Y i
at_size zero x y X Y f g = f
at_size (suc i) x y X Y f g = g

at_word : (i : ℕ) (x y : ℤ) → Word x → Word y → Word (at x y i)
at_word zero x y f g = f
at_word (suc i) x y f g = g

-- where v1 is taken from x and the other v's, it is the same
pub first_rest : {A : Type 0} (x q : A) (m : ℕ) → first_of m x (rest_of m x q) ≡ first_of m x q
first_rest x q zero = refl
first_rest x q (suc zero) = refl
first_rest x q (suc (suc m)) = refl

-- ---- one step, at j = i + 1
module _ (s : ℕ) (first rest : ℤ) (ws : List ℤ) (i j : ℕ) (t : ℤ) (e : j ≡ suc i) where
  pub step_ready : OutwardReady s first rest ws j t → StepReady s (a_after ws i) (b_at ws i) (at first rest i) t
  unfolding outward_numbers outward_divisors
  step_ready q =
      let o = rw e at q in
      record {
        scale = o.scale;
        a_word = o.words (i + i + 1);
        b_word = o.words (i + i);
        v_word = at_word i first rest o.first_word o.rest_word;
        t_word = o.t_word;
        t_apart = o.divisors.0;
        term = o.numbers.0;
        ratio = o.numbers.1.0;
        sum = o.numbers.1.1.0;
      }

  pub next_ready : OutwardReady s first rest ws j t → OutwardReady s first rest ws i (next_of s (a_after ws i) (b_at ws i) (at first rest i) t)
  unfolding outward_numbers outward_divisors
  next_ready q =
      let o = rw e at q in
      record {
        scale = o.scale;
        words = o.words;
        room = omega (arith, o.room);
        first_word = o.first_word;
        rest_word = o.rest_word;
        t_word = o.numbers.1.1.0;
        numbers = o.numbers.1.1.1;
        divisors = o.divisors.1;
      }

  pub step_word : outward s first rest ws i (next_of s (a_after ws i) (b_at ws i) (at first rest i) t) ≡ outward s first rest ws j t
  unfolding outward
  step_word = rw e

-- at depth 0
pub word_done : (s : ℕ) (first rest : ℤ) (ws : List ℤ) (j : ℕ) (t : ℤ) → j ≡ 0 → outward s first rest ws j t ≡ t
unfolding outward
word_done s first rest ws j t e = rw e
