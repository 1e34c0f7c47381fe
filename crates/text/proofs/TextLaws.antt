-- Texts put into a buffer one behind the other, by one run of stores behind another; the digits of a number, by induction on how many there
-- are; and how long a text is at most.
use Rattle.whole.proofs.Basics.{◌≡◌, ◌∙◌, refl, sym, ap, Bool, true, false, cond, List, [], ◌∷◌, ◌++◌, ℕ, suc, zero, ◌+◌, ◌/◌, ◌%◌, ◌^◌, ◌≤◌, ◌<◌, arith, ltb, length, take, drop, length-append, ℤ, pos, negsuc, nat_abs, lt_z, ltb-true, ltb-false, lt-ltb, le-ltb, w32, SFits}
use native.Mathlib.Nat.{zero-add, pow-suc}
use mir.Facts.{to_z-of_z}
use lib.ListN.{set}
use lib.Seq.{sets, sets-eq, length-sets, take-append_seam}
use Rattle.std.proofs.lemmas.List.{length-take-le}
use Rattle.stored.proofs.StoreLaws.{next, sets_front}
use Rattle.text.specs.Text.{text, digit, digits_by, decimal, signed, Puts}

-- ---- texts in a buffer

-- a text behind a text
pub behind : {l a d b e : List ℕ} {i n m : ℕ} → Puts l i a d n → Puts d n b e m → Puts l i (a ++ b) e m
behind {l} {a} {d} {b} {e} {i} p q =
    record {
      end = omega (arith, p.end, q.end, length-append a b);
      stored = next l a b i _ p.stored p.end q.stored;
    }

-- one character
pub one : (l : List ℕ) (i x : ℕ) → Puts l i (x ∷ []) (set l i x) (i + 1)
one l i x = record { end = refl; stored = refl }

-- a text at the front, which the buffer has room for
pub front : {l t u d : List ℕ} {n m : ℕ} → u ≡ t → Puts l 0 t d n → n ≤ m → m ≡ length l
    → ((n ≡ length u) × (d ≡ u ++ drop n l)) × ((n ≤ m) × (length d ≡ m))
front {l} {t} {u} {d} {n} {m} q p h g =
    let e : n ≡ length t = p.end ∙ zero-add (length t) in (
      rw q (e, p.stored ∙ rw e (sets_front l t (omega (arith, e, h, g)))),
      (h, ap length p.stored ∙ length-sets l 0 t ∙ sym g),
    )

-- what stands up to the end is what stood up to the place, and the text behind it
pub so_far : {l t d : List ℕ} {at n : ℕ} → Puts l at t d n → at + length t ≤ length l → take n d ≡ take at l ++ t
so_far {l} {t} {d} {at} {n} p h =
    let e : n ≡ length (take at l ++ t) = p.end ∙ simp length-append (omega (arith, length-take-le at l (omega arith))) in
    rw (p.stored, sets-eq t l at h, e) (take-append_seam (take at l ++ t) (drop (at + length t) l))

-- ---- what is left of a text to be put: the whole stands where it would, if the rest were put
pub record Left (l : List ℕ) (at : ℕ) (t d : List ℕ) (n : ℕ) (rest : List ℕ) : Type 0 where
  pub end : n + length rest ≡ at + length t
  pub stored : sets d n rest ≡ sets l at t

pub begin : (l : List ℕ) (at : ℕ) (t : List ℕ) → Left l at t l at t
begin l at t = record { end = refl; stored = refl }

pub less : {l t d a rest e : List ℕ} {at n m : ℕ} → Left l at t d n (a ++ rest) → Puts d n a e m → Left l at t e m rest
less {l} {t} {d} {a} {rest} {e} {at} {n} {m} h p =
    record {
      end = omega (arith, h.end, p.end, length-append a rest);
      stored = next d a rest n m p.stored p.end refl ∙ h.stored;
    }

pub done : {l t d : List ℕ} {at n : ℕ} → Left l at t d n [] → Puts l at t d n
done h = record { end = omega (arith, h.end); stored = h.stored }

-- ---- digits

-- one more digit makes no difference to a number that has no more than k in front of its last
enough : (k n : ℕ) → n < 10 ^ suc k → digits_by k n ≡ digits_by (suc k) n
unfolding digits_by
enough zero n h = rw (lt-ltb n 10 (omega (arith, h)))
enough (suc k) n h = ap (λ (t : List ℕ). cond (ltb n 10) (digit n) (t ++ digit (n % 10))) (enough k (n / 10) (omega (arith, h, pow-suc 10 (suc k))))

pub last_digit : (n : ℕ) → n < 10 → decimal n ≡ digit n
unfolding decimal digits_by
last_digit n h = rw (lt-ltb n 10 h)

pub more_digits : (n : ℕ) → 10 ≤ n → n < 18446744073709551616 → decimal n ≡ decimal (n / 10) ++ digit (n % 10)
unfolding decimal digits_by
more_digits n h b = rw (le-ltb n 10 h) (ap (λ (t : List ℕ). t ++ digit (n % 10)) (enough 18 (n / 10) (omega (arith, b))))

pub one_long : (n : ℕ) → n < 10 → length (decimal n) ≡ 1
one_long n h = ap length (last_digit n h)

pub one_longer : (n : ℕ) → 10 ≤ n → n < 18446744073709551616 → length (decimal n) ≡ length (decimal (n / 10)) + 1
one_longer n h b = ap length (more_digits n h b) ∙ length-append (decimal (n / 10)) (digit (n % 10))

-- what a number's digits are, by whether there is one, and how many
pub ruleset digits = (length-append, last_digit, more_digits)

-- a number below 10 ^ (k + 1) has at most k + 1 digits
few : (m k n : ℕ) → n < 10 ^ suc k → length (digits_by m n) ≤ suc k
unfolding digits_by
few zero k n h = omega arith
few (suc m) k n h = at k (ltb n 10) refl h (few m)
  where
    at : (k : ℕ) (t : Bool) → ltb n 10 ≡ t → n < 10 ^ suc k → ((k n : ℕ) → n < 10 ^ suc k → length (digits_by m n) ≤ suc k)
        → length (cond t (digit n) (digits_by m (n / 10) ++ digit (n % 10))) ≤ suc k
    at k true e h ih = omega arith
    at zero false e h ih = absurd (omega (arith, ltb-false n 10 e, h))
    at (suc k) false e h ih = omega (arith, length-append (digits_by m (n / 10)) (digit (n % 10)), ih k (n / 10) (omega (arith, h, pow-suc 10 (suc k))))

pub short : (k n : ℕ) → n < 10 ^ suc k → length (decimal n) ≤ suc k
unfolding decimal
short k n h = few 19 k n h

pub three_digits : (n : ℕ) → n < 256 → length (decimal n) ≤ 3
three_digits n h = short 2 n (omega (arith, h))

pub five_digits : (n : ℕ) → n < 65536 → length (decimal n) ≤ 5
five_digits n h = short 4 n (omega (arith, h))

pub ten_digits : (n : ℕ) → n < 4294967296 → length (decimal n) ≤ 10
ten_digits n h = short 9 n (omega (arith, h))

pub twenty_digits : (n : ℕ) → n < 18446744073709551616 → length (decimal n) ≤ 20
twenty_digits n h = short 19 n (omega (arith, h))

-- ---- signed

pub negative : (x : ℤ) → lt_z x (pos 0) ≡ true → signed x ≡ text "-" ++ decimal (nat_abs x)
negative (pos n) h = absurd (omega (arith, ltb-true n 0 h))
negative (negsuc n) h = refl

pub not_negative : (x : ℤ) → lt_z x (pos 0) ≡ false → signed x ≡ decimal (nat_abs x)
not_negative (pos n) h = refl
not_negative (negsuc n) h = absurd (let z : ◌≡◌ {A = ℕ} 0 1 = cc in omega arith)

-- a sign, and ten digits
pub short_signed : (x : ℤ) → SFits w32 x → length (signed x) ≤ 11
short_signed (pos n) h = omega (arith, ten_digits n (omega (arith, h.sfits)))
short_signed (negsuc n) h = omega (arith, ten_digits (suc n) (omega (arith, h.sfits)))

-- where a text ends, by what has been put
pub ruleset lengths = (length-append, three_digits, five_digits, ten_digits, twenty_digits, short_signed, to_z-of_z)
