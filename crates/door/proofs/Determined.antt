-- Theorems: two results that meet the same contract are equal, for `shown` and for `ends`. (The contract of `taken` is an equation.)
-- A finite double's bits depend on its sign and value alone, and the bits give the double back.
use Rattle.whole.proofs.Basics.{◌≡◌, ◌∙◌, refl, sym, ap, ap₂, Bool, cond, ℕ, ◌+◌, ◌-◌, ◌*◌, ◌/◌, ◌^◌, ◌<◌, T, ℤ, nat_abs}
use native.Mathlib.Nat.{mul_right_comm, eq_of_mul-eq-mul_right}
use lib.Pow.{pow_pos}
use lib.Ieee.{Float, nan, inf, fin, Format, binary64, prec, low, up, down, size, hid, top, fits, to_bits, of_bits}
use lib.Ieee.Fits.{down_pos}
use lib.Ieee.Bits.{of_bits-to_bits}
use lib.Ieee.Exact.{HasValue}
use lib.Ieee.Nearest.{div_same}
use Rattle.word.specs.Words.{unit, below_zero}
use Rattle.door.specs.declared.answer.Ends.{Ends}
use Rattle.door.specs.Exact.{Exactly}

-- x / d and y / g are both a / c
cross : (x y d g a c : ℕ) → 0 < c → x * c ≡ a * d → y * c ≡ a * g → x * g ≡ y * d
cross x y d g a c C h k =
    eq_of_mul-eq-mul_right c C (x * g) (y * d)
    (mul_right_comm x g c ∙ ap (λ (z : ℕ). z * g) h ∙ mul_right_comm a d g ∙ ap (λ (z : ℕ). z * d) (sym k) ∙ mul_right_comm y c d)

-- a finite value's bits, by its sign and its size in units of the format's smallest value
pattern : Format → Bool → ℕ → ℕ
pattern f s n = cond s (top f) 0 + (size n - prec f) * hid f + n / 2 ^ (size n - prec f)

to_bits_is : (f : Format) (s : Bool) (m : ℕ) (e : ℤ) → to_bits f (fin s m e) ≡ pattern f s (m * up e * 2 ^ low f / down e)
unfolding to_bits pattern
to_bits_is f s m e = refl

same_bits : (f : Format) (s t u : Bool) (m n : ℕ) (e g : ℤ) (a c : ℕ) → 0 < c → HasValue (fin t m e) s a c → HasValue (fin u n g) s a c → to_bits f (fin t m e) ≡ to_bits f (fin u n g)
same_bits f s t u m n e g a c C v w =
    let l = 2 ^ low f in
    let x : m * up e * down g ≡ n * up g * down e = cross (m * up e) (n * up g) (down e) (down g) a c C v.1 w.1 in
    to_bits_is f t m e
    ∙ ap (λ (b : Bool). pattern f b (m * up e * l / down e)) (v.0 ∙ sym w.0)
    ∙ ap (λ (z : ℕ). pattern f u z)
    (div_same (m * up e * l) (down e) (n * up g * l) (down g) (down_pos e) (down_pos g)
    (mul_right_comm (m * up e) l (down g) ∙ ap (λ (z : ℕ). z * l) x ∙ mul_right_comm (n * up g) (down e) l))
    ∙ sym (to_bits_is f u n g)

value_unique : (f : Format) (x y : Float) (s : Bool) (a c : ℕ) → 0 < c → T (fits f x) → T (fits f y) → HasValue x s a c → HasValue y s a c → x ≡ y
value_unique f nan y s a c C p q v w = elim v [ ]
value_unique f (inf _) y s a c C p q v w = elim v [ ]
value_unique f (fin t m e) nan s a c C p q v w = elim w [ ]
value_unique f (fin t m e) (inf _) s a c C p q v w = elim w [ ]
value_unique f (fin t m e) (fin u n g) s a c C p q v w =
    sym (of_bits-to_bits f (fin t m e) p) ∙ ap (of_bits f) (same_bits f s t u m n e g a c C v w) ∙ of_bits-to_bits f (fin u n g) q

pub exactly_unique : (s : ℕ) (w : ℤ) (x y : Float) → Exactly s w x → Exactly s w y → x ≡ y
exactly_unique s w x y p q = value_unique binary64 x y (below_zero w) (nat_abs w) (unit s) (pow_pos s) p.held q.held p.value q.value

pub ends_unique : (s : ℕ) (lo hi : ℤ) (p q : Ends) → Exactly s lo p.low → Exactly s hi p.high → Exactly s lo q.low → Exactly s hi q.high → p ≡ q
ends_unique s lo hi p q a b c d = ap₂ (λ (x y : Float). record { low = x; high = y }) (exactly_unique s lo p.low q.low a c) (exactly_unique s hi p.high q.high b d)
