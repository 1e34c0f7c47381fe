-- Numbers in a part of a list, in a list that goes on, and where they were stored.
use Rattle.whole.proofs.Basics.{◌≡◌, ◌∙◌, ap, List, ◌∷◌, ◌++◌, ℕ, ◌+◌, ◌*◌, ◌/◌, ◌%◌, ◌≤◌, ◌<◌, arith, length, take, drop, get_or, ℤ, w32, SFits, to_z, of_z, to_z-of_z}
use Rattle.std.proofs.lemmas.Int.{of_z-to_z}
use native.Mathlib.Nat.{add_assoc, add-zero, zero-add, div-div-eq-div-mul, mod-eq_of_lt, div-add-mod'}
use lib.ListN.{get_or-append}
use lib.Seq.{get_or-take, get_or-drop, get_or-append_seam, get_or-append-add}
use mir.Val.{Fits}
use mir.ValLaws.{of_z_fits}
use Rattle.stored.specs.Numbers.{number2, number4, word4, bytes2, bytes4, pattern}

-- four bytes that are those of another list make the same number
same4 : (s t : List ℕ) (i k : ℕ) → ((j : ℕ) → j < 4 → get_or s (i + j) 0 ≡ get_or t (k + j) 0) → number4 s i ≡ number4 t k
unfolding number4
same4 s t i k f =
    let first : get_or s i 0 ≡ get_or t k 0 = rw (add-zero i, add-zero k) at (f 0 (omega arith)) in
    rw (first, f 1 (omega arith), f 2 (omega arith), f 3 (omega arith))

pub number4_in : (s : List ℕ) (at n k : ℕ) → k + 4 ≤ n → number4 (take n (drop at s)) k ≡ number4 s (at + k)
number4_in s at n k h = same4 _ s k (at + k) (λ j g. rw (add_assoc at k j) (get_or-take n (drop at s) (k + j) 0 (omega arith) ∙ get_or-drop at s (k + j) 0))

pub number4-drop : (s : List ℕ) (at : ℕ) → number4 (drop at s) 0 ≡ number4 s at
number4-drop s at = same4 _ s 0 at (λ j g. rw (zero-add j) (get_or-drop at s j 0))

pub number4_more : (s t : List ℕ) (k : ℕ) → k + 4 ≤ length s → number4 (s ++ t) k ≡ number4 s k
number4_more s t k h = same4 _ s k k (λ j g. get_or-append s t 0 (k + j) (omega arith))

-- ---- a number that was stored is read again

pub number2_at : (a t : List ℕ) (n k : ℕ) → n < 65536 → k ≡ length a → number2 (a ++ (bytes2 n ++ t)) k ≡ n
unfolding number2 bytes2
number2_at a t n k h e =
    let b = bytes2 n ++ t in
    rw (e, get_or-append_seam a (n % 256) (n / 256 % 256 ∷ t) 0, get_or-append-add a b 1 0) (omega arith)

-- four digits, of plain numbers: `omega` does not relate n / 65536 to n / 256
sum4 : (n a b c w x y : ℕ) → a * 256 + w ≡ n → b * 256 + x ≡ a → c * 256 + y ≡ b → w + 256 * x + 65536 * y + 16777216 * c ≡ n
sum4 n a b c w x y e f g = omega arith

digits4 : (n : ℕ) → n < 4294967296 → n % 256 + 256 * (n / 256 % 256) + 65536 * (n / 65536 % 256) + 16777216 * (n / 16777216 % 256) ≡ n
digits4 n h =
    let m : n / 16777216 % 256 ≡ n / 16777216 = mod-eq_of_lt (omega arith) in
    rw m
    (sum4 n (n / 256) (n / 65536) (n / 16777216) (n % 256) (n / 256 % 256) (n / 65536 % 256) (div-add-mod' n 256)
    (rw (div-div-eq-div-mul n 256 256) at (div-add-mod' (n / 256) 256))
    (rw (div-div-eq-div-mul n 65536 256) at (div-add-mod' (n / 65536) 256)))

pub number4_at : (a t : List ℕ) (n k : ℕ) → n < 4294967296 → k ≡ length a → number4 (a ++ (bytes4 n ++ t)) k ≡ n
unfolding number4 bytes4
number4_at a t n k h e =
    let b = bytes4 n ++ t in
    rw (e, get_or-append_seam a (n % 256) (n / 256 % 256 ∷ n / 65536 % 256 ∷ n / 16777216 % 256 ∷ t) 0, get_or-append-add a b 1 0, get_or-append-add a b 2 0, get_or-append-add a b 3 0) (digits4 n h)

pub word4_at : (a t : List ℕ) (z : ℤ) (k : ℕ) → SFits w32 z → k ≡ length a → word4 (a ++ (bytes4 (pattern z) ++ t)) k ≡ z
word4_at a t z k f e =
    let h : Fits w32 (of_z w32 z) = of_z_fits w32 z f in
    ap (to_z w32) (number4_at a t (pattern z) k h.fits e) ∙ to_z-of_z f

-- a pattern taken as a signed number, and that number written and read again
pub signed_again : (z : ℤ) (n m : ℕ) → z ≡ to_z w32 n → n ≡ m → n < 4294967296 → to_z w32 (of_z w32 z) ≡ to_z w32 m
signed_again z n m e f h = rw e (ap (to_z w32) (of_z-to_z w32 n h ∙ f))
