-- Runs of words, and the array that holds one.
use Rattle.whole.proofs.Basics.{◌≡◌, ◌∙◌, List, [], ◌∷◌, ◌++◌, append_assoc, ℕ, suc, ◌+◌, ◌-◌, ◌<◌, ◌≤◌, arith, length, take, get_or, length-append, ℤ, pos}
use lib.ListN.{set, replicate}
use lib.Seq.{set-append_seam, take-append_seam, take-suc, length-take-le}
use native.Mathlib.Numerals.{add-one}
use Rattle.stored.specs.Words.{value, values}
use Rattle.stored.proofs.ValuesLaws.{length-values, values_append}
use Rattle.layout.specs.Fields.{padded}

pub take-padded : (l : List ℤ) → take (length l) (padded l) ≡ l
unfolding padded
take-padded l = take-append_seam l _

-- one word more
pub padded_more : (l : List ℤ) (v : ℤ) → length l < 32 → set (padded l) (length l) v ≡ padded (l ++ (v ∷ []))
unfolding padded
padded_more l v h =
    let e : 32 - length l ≡ suc (31 - length l) = omega arith in
    let f : 32 - length (l ++ (v ∷ [])) ≡ 31 - length l = omega (arith, length-append l (v ∷ [])) in
    rw (e, f, set-append_seam l (pos 0) (replicate (31 - length l) (pos 0)) v, append_assoc)

-- a turn of the loop that copies
pub turn : (ws : List (List ℕ)) (i : ℕ) (a : List ℤ) (v : ℤ) → length ws ≤ 32 → i < length ws → a ≡ padded (values (take i ws)) → v ≡ value (get_or ws i []) → set a i v ≡ padded (values (take (i + 1) ws))
turn ws i a v n h e f =
    let k : length (values (take i ws)) ≡ i = length-values (take i ws) ∙ length-take-le i ws (omega arith) in
    let m : values (take (i + 1) ws) ≡ values (take i ws) ++ (value (get_or ws i []) ∷ []) = rw (add-one i, take-suc ws i [] h) (values_append (take i ws) (get_or ws i [] ∷ [])) in
    rw (e, f, m, ← padded_more (values (take i ws)) (value (get_or ws i [])) (omega (arith, k)), k)
