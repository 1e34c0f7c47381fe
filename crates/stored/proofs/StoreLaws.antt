-- Runs of stores in a list, and the bytes of a number that stands in one.
use Rattle.whole.proofs.Basics.{◌≡◌, ◌∙◌, refl, sym, ap, List, [], ◌∷◌, ◌++◌, append_assoc, ℕ, suc, ◌+◌, ◌/◌, ◌%◌, ◌≤◌, ◌<◌, arith, length, take, drop, get_or}
use native.Mathlib.Nat.{add-zero, zero-add}
use native.Mathlib.Numerals.{add-one}
use lib.ListN.{set}
use lib.Seq.{sets, sets-eq, drop-drop, take-suc, length-take-le}
use Rattle.stored.specs.Numbers.{Bytes, number2, number4, bytes2, bytes4}

-- ---- runs of stores: a run behind a run
sets_sets : (a l b : List ℕ) (i : ℕ) → sets (sets l i a) (i + length a) b ≡ sets l i (a ++ b)
sets_sets [] l b i = rw (add-zero i)
sets_sets (x ∷ a) l b i =
    let e : i + suc (length a) ≡ suc i + length a = omega arith in
    rw e (sets_sets a (set l i x) b (suc i))

pub next : {d e : List ℕ} (l a b : List ℕ) (i n : ℕ) → d ≡ sets l i a → n ≡ i + length a → e ≡ sets d n b → e ≡ sets l i (a ++ b)
next l a b i n p q r = r ∙ rw (p, q) (sets_sets a l b i)

-- a run at the front
pub sets_front : (l a : List ℕ) → length a ≤ length l → sets l 0 a ≡ a ++ drop (length a) l
sets_front l a h = rw (sets-eq a l 0 (omega arith), zero-add (length a))

-- a turn of a loop that copies
pub turn : (out bytes d : List ℕ) (at i : ℕ) → i < length bytes → d ≡ sets out at (take i bytes) → set d (at + i) (get_or bytes i 0) ≡ sets out at (take (i + 1) bytes)
turn out bytes d at i h e =
    rw (add-one i, take-suc bytes i 0 h)
    (next out (take i bytes) (get_or bytes i 0 ∷ []) at (at + i) e (ap (λ (n : ℕ). at + n) (sym (length-take-le i bytes (omega arith)))) refl)

-- bytes in the place of as many
pub put_part : (l ms vs : List ℕ) (at n : ℕ) → ms ≡ vs → n ≡ length vs → at + length vs ≤ length l → take at l ++ (ms ++ drop n (drop at l)) ≡ sets l at vs
put_part l ms vs at n e f h = rw (sets-eq vs l at h, e, f, drop-drop (length vs) at l, append_assoc (take at l) vs (drop (at + length vs) l))

pub length-bytes2 : (n : ℕ) → length (bytes2 n) ≡ 2
unfolding bytes2
length-bytes2 n = refl

pub length-bytes4 : (n : ℕ) → length (bytes4 n) ≡ 4
unfolding bytes4
length-bytes4 n = refl

-- ---- from a number back to its bytes
pub two : (s : List ℕ) (at n : ℕ) → Bytes s → number2 s at ≡ n → (get_or s at 0 ≡ n % 256) × (get_or s (at + 1) 0 ≡ n / 256 % 256)
unfolding number2
two s at n h e = (omega (arith, h at, h (at + 1)), omega (arith, h at, h (at + 1)))

pub four : (s : List ℕ) (at n : ℕ) → Bytes s → number4 s at ≡ n
    → (get_or s at 0 ≡ n % 256) × (get_or s (at + 1) 0 ≡ n / 256 % 256) × (get_or s (at + 2) 0 ≡ n / 65536 % 256) × (get_or s (at + 3) 0 ≡ n / 16777216 % 256)
unfolding number4
four s at n h e =
    let a = h at in
    let b = h (at + 1) in
    let c = h (at + 2) in
    let d = h (at + 3) in
    (omega arith, omega arith, omega arith, omega arith)
