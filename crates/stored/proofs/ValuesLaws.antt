-- The values of a list of words: those of the chunks that bytes are cut into, how many there are, and their parts.
use Rattle.whole.proofs.Basics.{◌≡◌, ◌∙◌, refl, ap, ap₂, List, [], ◌∷◌, ◌++◌, ℕ, suc, zero, ◌+◌, ◌-◌, ◌*◌, ◌/◌, ◌<◌, ◌≤◌, arith, length, take, drop, get_or, pos, w32, to_z, sym}
use native.Mathlib.Nat.{add-zero, add_assoc}
use Rattle.std.specs.Simd.{first_chunks}
use Rattle.std.proofs.lemmas.List.{length-map, length-drop, take-map, drop-map, map-append, get_or-map}
use lib.Seq.{drop-drop, take_all}
use Rattle.stored.specs.Numbers.{number4}
use Rattle.stored.specs.Words.{words, value, values}
use Rattle.stored.proofs.NumberLaws.{number4_in}

chunk_values : (b : List ℕ) (at m : ℕ) → at + 4 * m ≤ length b → values (first_chunks 4 m (drop at b)) ≡ words b at m
unfolding words
chunk_values b at zero h = refl
chunk_values b at (suc m) h =
    ap₂ ◌∷◌ (ap (to_z w32) (number4_in b at 4 0 (omega arith) ∙ ap (number4 b) (add-zero at)))
    (ap (λ (l : List ℕ). values (first_chunks 4 m l)) (drop-drop 4 at b) ∙ chunk_values b (at + 4) m (omega arith))

pub values_of_chunks : (b : List ℕ) → values (first_chunks 4 (length b / 4) b) ≡ words b 0 (length b / 4)
values_of_chunks b = chunk_values b 0 (length b / 4) (omega arith)

-- ---- how many, and the parts
pub length-values : (ws : List (List ℕ)) → length (values ws) ≡ length ws
length-values ws = length-map ws value

pub values_take : (n : ℕ) (ws : List (List ℕ)) → values (take n ws) ≡ take n (values ws)
values_take n ws = sym (take-map value n ws)

pub values_drop : (n : ℕ) (ws : List (List ℕ)) → values (drop n ws) ≡ drop n (values ws)
values_drop n ws = sym (drop-map value n ws)

-- those from a place on, as code takes them
pub values_rest : (n : ℕ) (ws : List (List ℕ)) → values (take (length ws - n) (drop n ws)) ≡ drop n (values ws)
values_rest n ws = ap values (take_all (length ws - n) (drop n ws) (omega (arith, length-drop n ws))) ∙ values_drop n ws

pub values_append : (vs ws : List (List ℕ)) → values (vs ++ ws) ≡ values vs ++ values ws
values_append vs ws = map-append value vs ws

pub values_at : (ws : List (List ℕ)) (i : ℕ) → i < length ws → get_or (values ws) i (pos 0) ≡ value (get_or ws i [])
values_at ws i h = get_or-map value ws i [] (pos 0) h

-- ---- the words of a part of bytes are words of the whole
words_from : (b : List ℕ) (at n k m : ℕ) → k + 4 * m ≤ n → words (take n (drop at b)) k m ≡ words b (at + k) m
unfolding words
words_from b at n k zero h = refl
words_from b at n k (suc m) h =
    ap₂ ◌∷◌ (ap (to_z w32) (number4_in b at n k (omega arith)))
    (words_from b at n (k + 4) m (omega arith) ∙ ap (λ (j : ℕ). words b j m) (sym (add_assoc at k 4)))

pub words_in : (b : List ℕ) (at n m : ℕ) → 4 * m ≤ n → words (take n (drop at b)) 0 m ≡ words b at m
words_in b at n m h = words_from b at n 0 m (omega arith) ∙ ap (λ (k : ℕ). words b k m) (add-zero at)
