-- The stored values of a formula: tests of words, one by one, and what they say of a whole list.
use Rattle.whole.proofs.Basics.{eqb, ◌∙◌, drop, get_or, length, ◌≡◌, refl, sym, ap, subst, Bool, true, false, cond, List, [], ◌∷◌, ℕ, suc, zero, ◌+◌, ◌-◌, ◌*◌, ◌≤◌, ◌<◌, arith, T, ltb, ℤ, pos, negsuc, nat_abs, lt_z, w32, SFits, ltb-true, ltb-false, lt-ltb, le-ltb}
use Rattle.std.proofs.Common.{drop-cons}
use Rattle.word.specs.Words.{Word}
use Rattle.word.specs.Lists.{Words}
use Rattle.stored.specs.Numbers.{word4}
use Rattle.stored.specs.Words.{words, value, values}
use Rattle.formula.specs.Blank.{all_zero}
use Rattle.refusal.specs.Guard.{or_else}
use Rattle.faults.specs.Faults.{word_fault, words_fault, interval_fault}
use Rattle.faults.proofs.Chain.{pass, passed, neither}

-- below the least word is the same as no word
pub no_word : (z : ℤ) → SFits w32 z → lt_z z (negsuc 2147483646) ≡ ltb 2147483647 (nat_abs z)
no_word (pos n) f = sym (le-ltb 2147483647 n (omega (arith, f.sfits)))
no_word (negsuc n) f = at (ltb 2147483646 n) refl
  where
    at : (t : Bool) → ltb 2147483646 n ≡ t → t ≡ ltb 2147483647 (suc n)
    at true e = sym (lt-ltb 2147483647 (suc n) (omega (arith, ltb-true 2147483646 n e)))
    at false e = sym (le-ltb 2147483647 (suc n) (omega (arith, ltb-false 2147483646 n e)))

-- an end that is not below a word is one
not_below_word : (lo hi : ℤ) → SFits w32 hi → word_fault lo ≡ 0 → lt_z hi lo ≡ false → word_fault hi ≡ 0
not_below_word lo hi f e o = let w = passed (ltb 2147483647 (nat_abs lo)) 6 0 (λ q. omega arith) e in ap (λ (t : Bool). cond t 6 0) (le-ltb _ _ (at lo hi f (ltb-false _ _ w.0) o))
  where
    at : (lo hi : ℤ) → SFits w32 hi → nat_abs lo ≤ 2147483647 → lt_z hi lo ≡ false → nat_abs hi ≤ 2147483647
    at lo (pos n) f h o = omega (arith, f.sfits)
    at (pos m) (negsuc n) f h o = absurd (subst T o tt)
    at (negsuc m) (negsuc n) f h o = omega (arith, ltb-false m n o)

-- so the high end needs no test of its own
pub ends_fault : (lo hi : ℤ) → SFits w32 hi → word_fault lo ≡ 0 → interval_fault lo hi ≡ cond (lt_z hi lo) 6 0
unfolding interval_fault
ends_fault lo hi f e = sym (pass refl e (at (lt_z hi lo) refl))
  where
    six : (t : Bool) → 6 ≡ or_else (cond t 6 0) 6
    six true = refl
    six false = refl

    at : (t : Bool) → lt_z hi lo ≡ t → cond t 6 0 ≡ or_else (word_fault hi) (cond t 6 0)
    at true o = six (ltb 2147483647 (nat_abs hi))
    at false o = pass refl (not_below_word lo hi f e o) refl

-- the words that are still to come: the next, and those behind it
pub next_word : (b : List ℕ) (at m i : ℕ) → i < m
    → words_fault (words b (at + 4 * i) (m - i)) ≡ or_else (word_fault (word4 b (at + 4 * i))) (words_fault (words b (at + 4 * (i + 1)) (m - (i + 1))))
unfolding words words_fault
next_word b at m i h =
    let n : m - i ≡ suc (m - (i + 1)) = omega arith in
    let p : at + 4 * (i + 1) ≡ at + 4 * i + 4 = omega arith in
    rw (n, p) refl

-- ---- of a whole list: no fault is that all are words

pub word : (z : ℤ) → word_fault z ≡ 0 → Word z
word z e = ltb-false 2147483647 (nat_abs z) (passed (ltb 2147483647 (nat_abs z)) 6 0 (λ q. omega arith) e).0

pub each_word : (l : List ℤ) → words_fault l ≡ 0 → Words l
unfolding words_fault
each_word [] e i = omega arith
each_word (z ∷ l) e zero = word z (neither (word_fault z) (words_fault l) e).0
each_word (z ∷ l) e (suc i) = each_word l (neither (word_fault z) (words_fault l) e).1 i

pub all_words : (l : List ℤ) → Words l → words_fault l ≡ 0
unfolding words_fault
all_words [] h = refl
all_words (z ∷ l) h = rw (le-ltb 2147483647 (nat_abs z) (h 0)) (all_words l (λ i. h (suc i)))

-- ---- of words by their own bytes: those still to come are the next, and those behind it
pub next_fault : (ws : List (List ℕ)) (i : ℕ) → i < length ws → words_fault (values (drop i ws)) ≡ or_else (word_fault (value (get_or ws i []))) (words_fault (values (drop (i + 1) ws)))
unfolding words_fault
next_fault ws i h =
    let e : suc i ≡ i + 1 = omega arith in
    ap (λ (l : List (List ℕ)). words_fault (values l)) (drop-cons ws i [] h)
    ∙ ap (λ (k : ℕ). or_else (word_fault (value (get_or ws i []))) (words_fault (values (drop k ws)))) e

pub next_zero : (ws : List (List ℕ)) (i : ℕ) → i < length ws → all_zero (values (drop i ws)) ≡ cond (eqb (nat_abs (value (get_or ws i []))) 0) (all_zero (values (drop (i + 1) ws))) false
unfolding all_zero
next_zero ws i h =
    let e : suc i ≡ i + 1 = omega arith in
    ap (λ (l : List (List ℕ)). all_zero (values l)) (drop-cons ws i [] h)
    ∙ ap (λ (k : ℕ). cond (eqb (nat_abs (value (get_or ws i []))) 0) (all_zero (values (drop k ws))) false) e
