-- A record's bytes are written again from the numbers that are read from them.
use Rattle.whole.proofs.Basics.{◌≡◌, ◌∙◌, refl, sym, ap, ap₂, subst, Bool, true, false, cond, inl, inr, List, [], ◌∷◌, ◌++◌, ℕ, suc, zero, ◌+◌, ◌*◌, ◌≤◌, ◌<◌, arith, eqb, length, take, drop, w32, eqb-false}
use native.Mathlib.Numerals.{add-one}
use lib.Seq.{drop-cons, drop-drop, take-add, get_or-append-add}
use mir.Val.{Fits}
use mir.Facts.{of_z-to_z}
use Rattle.stored.specs.Numbers.{number2, number4, word4, bytes2, bytes4, pattern, Bytes}
use Rattle.stored.specs.Words.{words}
use Rattle.stored.proofs.StoreLaws.{two, four}
use Rattle.table.specs.declared.Field.{Field}
use Rattle.table.specs.Order.{field_size, Stands}
use Rattle.layout.specs.Fields.{field_of}
use Rattle.putting.specs.Bytes.{field_bytes, word_bytes}

-- ---- parts of a list of bytes

pub bytes_left : (a b : List ℕ) → Bytes (a ++ b) → Bytes a
bytes_left [] b h k = omega arith
bytes_left (x ∷ a) b h zero = h 0
bytes_left (x ∷ a) b h (suc k) = bytes_left a b (λ j. h (suc j)) k

pub bytes_right : (a b : List ℕ) → Bytes (a ++ b) → Bytes b
bytes_right a b h k = subst (λ (x : ℕ). x < 256) (get_or-append-add a b k 0) (h (length a + k))

-- a part and the part behind it
pub glue : (b : List ℕ) (at n m : ℕ) → take n (drop at b) ++ take m (drop (at + n) b) ≡ take (n + m) (drop at b)
glue b at n m = sym (take-add n m (drop at b) ∙ ap (λ (t : List ℕ). take n (drop at b) ++ take m t) (drop-drop n at b))

-- ---- numbers and words

module _ (b : List ℕ) (at : ℕ) (h : Bytes b) where
  pub two_again : at + 2 ≤ length b → bytes2 (number2 b at) ≡ take 2 (drop at b)
  unfolding bytes2
  two_again g =
      let t = two b at (number2 b at) h refl in
      rw (drop-cons b at 0 (omega arith), drop-cons b (suc at) 0 (omega arith), ← add-one at, ← t.0, ← t.1) refl

  pub four_again : at + 4 ≤ length b → bytes4 (number4 b at) ≡ take 4 (drop at b)
  unfolding bytes4
  four_again g =
      let t = four b at (number4 b at) h refl in
      let i : suc at ≡ at + 1 = omega arith in
      let j : suc (suc at) ≡ at + 2 = omega arith in
      let k : suc (suc (suc at)) ≡ at + 3 = omega arith in
      rw (drop-cons b at 0 (omega arith), drop-cons b (suc at) 0 (omega arith), drop-cons b (suc (suc at)) 0 (omega arith), drop-cons b (suc (suc (suc at))) 0 (omega arith), k, j, i, ← t.0, ← t.1, ← t.2, ← t.3) refl

  fits : Fits w32 (number4 b at)
  unfolding number4
  fits = record { fits = omega (arith, h at, h (at + 1), h (at + 2), h (at + 3)) }

  pub word_again : at + 4 ≤ length b → bytes4 (pattern (word4 b at)) ≡ take 4 (drop at b)
  word_again g = ap bytes4 (of_z-to_z fits) ∙ four_again g

pub words_again : (b : List ℕ) (at m : ℕ) → Bytes b → at + 4 * m ≤ length b → word_bytes (words b at m) ≡ take (4 * m) (drop at b)
unfolding word_bytes words
words_again b at zero h l = refl
words_again b at (suc m) h l =
    let e : 4 + 4 * m ≡ 4 * suc m = omega arith in
    ap₂ (λ (x y : List ℕ). x ++ y) (word_again b at h (omega arith)) (words_again b (at + 4) m h (omega arith)) ∙ glue b at 4 (4 * m) ∙ ap (λ (n : ℕ). take n (drop at b)) e

-- ---- a field

pub field_again : (f : Field) (place : ℕ) (b : List ℕ) → Bytes b → Stands f place → place + field_size f ≤ length b → field_bytes f (field_of f b) ≡ take (field_size f) (drop place b)
unfolding field_bytes field_of
field_again f place b h s g = at (eqb f.at 0) refl s g
  where
    at : (t : Bool) → eqb f.at 0 ≡ t → Stands f place → place + cond t 0 2 ≤ length b → cond t [] (bytes2 (cond t 0 (number2 b f.at))) ≡ take (cond t 0 2) (drop place b)
    at true q s l = refl
    at false q (inl z) l = absurd (eqb-false _ _ q z)
    at false q (inr e) l = ap (λ (k : ℕ). bytes2 (number2 b k)) e ∙ two_again b place h l
