-- The laws of halves: they make up their number, and its products with another's halves make up the product.
use Rattle.whole.proofs.Basics.{◌≡◌, ◌∙◌, ap, ap₂, ℕ, ◌+◌, ◌*◌, ◌/◌, ◌^◌, ◌<◌, arith}
use Rattle.std.proofs.Common.{mod-lt, mul-le-mul}
use native.Mathlib.Nat.{div-add-mod}
use Rattle.multiply.specs.Halves.{OfHalves, halves_of, middle_and_low}
use Rattle.multiply.specs.declared.Halves.{Halves}

pub high_below : (a : ℕ) → a < 2 ^ 32 → (halves_of a).high < 2 ^ 16
high_below a h = omega (arith, div-add-mod a 65536)

low_below : (a : ℕ) → (halves_of a).low < 2 ^ 16
low_below a = mod-lt a (omega arith)

pub of_halves : (x y : ℕ) → x < 2 ^ 16 → y < 2 ^ 16 → OfHalves (x * y)
of_halves x y f g = mul-le-mul {n₁ = x} {m₁ = y} {n₂ = 65535} {m₂ = 65535} (omega arith) (omega arith)

put_together : (a : ℕ) (x : Halves) → x ≡ halves_of a → 2 ^ 16 * x.high + x.low ≡ a
put_together a x e = ap (λ (h : Halves). 2 ^ 16 * h.high + h.low) e ∙ div-add-mod a (2 ^ 16)

-- what is carried from half to half is what passes 32 digits
pub carried_is :
    (first second low : ℕ) (l carry last : Halves)
    → l ≡ halves_of low
    → carry ≡ halves_of (first + l.high)
    → last ≡ halves_of (second + carry.low)
    → carry.high + last.high ≡ middle_and_low first second low / 2 ^ 32
carried_is first second low l carry last L C E =
    omega (arith, put_together _ l L, put_together _ carry C, put_together _ last E, ap (λ (h : Halves). h.low) L, low_below low, ap (λ (h : Halves). h.low) E, low_below (second + carry.low))

-- the four products make up the whole one
pub long_is : (a b : ℕ) (x y : Halves) → x ≡ halves_of a → y ≡ halves_of b → x.high * y.high * 2 ^ 32 + middle_and_low (x.high * y.low) (x.low * y.high) (x.low * y.low) ≡ a * b
long_is a b x y X Y = omega (arith, ap₂ ◌*◌ (put_together a x X) (put_together b y Y))
