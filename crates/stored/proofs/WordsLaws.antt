-- The words of a stretch of bytes: how many there are, the one at a place, and its parts.
use Rattle.whole.proofs.Basics.{◌≡◌, ◌∙◌, refl, ap, ap₂, List, [], ◌∷◌, ◌++◌, ℕ, suc, zero, ◌+◌, ◌-◌, ◌*◌, ◌<◌, arith, length, take, drop, get_or, pos}
use lib.Seq.{take_all, take_at, drop_at}
use Rattle.stored.specs.Numbers.{word4}
use Rattle.stored.specs.Words.{words}

pub length-words : (b : List ℕ) (at m : ℕ) → length (words b at m) ≡ m
unfolding words
length-words b at zero = refl
length-words b at (suc m) = ap suc (length-words b (at + 4) m)

-- the word at a place of the list stands four bytes further for each one before it
pub word_at : (b : List ℕ) (at m i : ℕ) → i < m → get_or (words b at m) i (pos 0) ≡ word4 b (at + 4 * i)
unfolding words
word_at b at zero i h = absurd (omega arith)
word_at b at (suc m) zero h = let e : at ≡ at + 4 * 0 = omega arith in ap (word4 b) e
word_at b at (suc m) (suc i) h = let e : at + 4 + 4 * i ≡ at + 4 * suc i = omega arith in word_at b (at + 4) m i (omega arith) ∙ ap (word4 b) e

pub words_all : (b : List ℕ) (at m : ℕ) → take m (words b at m) ≡ words b at m
words_all b at m = take_all m (words b at m) (omega (arith, length-words b at m))

-- ---- two stretches, one behind the other
pub words_both : (b : List ℕ) (at p q : ℕ) → words b at (p + q) ≡ words b at p ++ words b (at + 4 * p) q
unfolding words
words_both b at zero q = let e : at ≡ at + 4 * 0 = omega arith in let f : 0 + q ≡ q = omega arith in ap₂ (words b) e f
words_both b at (suc p) q =
    let e : at + 4 + 4 * p ≡ at + 4 * suc p = omega arith in
    let f : suc p + q ≡ suc (p + q) = omega arith in
    rw (f, words_both b (at + 4) p q, e)

pub words_take : (b : List ℕ) (at p q : ℕ) → take p (words b at (p + q)) ≡ words b at p
words_take b at p q = rw (words_both b at p q) (take_at (words b at p) _ p (length-words b at p))

pub words-drop : (b : List ℕ) (at p q : ℕ) → drop p (words b at (p + q)) ≡ words b (at + 4 * p) q
words-drop b at p q = rw (words_both b at p q) (drop_at (words b at p) _ p (length-words b at p))

-- one word more, as a loop reads it
pub words_snoc : (b : List ℕ) (at m : ℕ) → words b at (m + 1) ≡ words b at m ++ (word4 b (at + 4 * m) ∷ [])
unfolding words
words_snoc b at m = words_both b at m 1

-- ---- the first word, and the others
pub words_head : (b : List ℕ) (at m : ℕ) → 0 < m → get_or (words b at m) 0 (pos 0) ≡ word4 b at
words_head b at m h = let e : at + 4 * 0 ≡ at = omega arith in word_at b at m 0 h ∙ ap (word4 b) e

pub words_tail : (b : List ℕ) (at m : ℕ) → 0 < m → drop 1 (words b at m) ≡ words b (at + 4) (m - 1)
unfolding words
words_tail b at zero h = absurd (omega arith)
words_tail b at (suc m) h = let e : m ≡ suc m - 1 = omega arith in ap (words b (at + 4)) e
