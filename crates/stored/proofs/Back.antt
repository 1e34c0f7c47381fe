-- A signed number that code hands on is what the machine reads back from its bits.
use Rattle.whole.proofs.Basics.{◌≡◌, ◌∙◌, refl, ap, true, false, ℕ, ◌-◌, ◌<◌, arith, T, ℤ, pos, negsuc, nat_abs, w32, SFits, to_z, of_z, to_z-of_z}
use lib.Signed.{le_z, non_neg}
use lib.Dec.{leb-zero}
use mir.Val.{Fits}
use mir.ValLaws.{to_z_pos}

pub back : {z y : ℤ} → SFits w32 z → z ≡ y → to_z w32 (of_z w32 z) ≡ y
back f e = to_z-of_z f ∙ e

-- a number that is not negative is its own pattern
pub high : (x : ℤ) → SFits w32 x → le_z (pos 0) x ≡ true → T (non_neg x) × Fits w32 (nat_abs x) × (nat_abs x ≡ of_z w32 x)
high (pos n) f e = (tt, record { fits = omega (arith, f.sfits) }, refl)
high (negsuc n) f e = absurd (let z : ◌≡◌ {A = ℕ} 0 1 = cc in omega arith)

-- of a negative one the pattern's complement is a number below the half
pub low : (x : ℤ) → SFits w32 x → le_z (pos 0) x ≡ false → (n : ℕ) × (n < 2147483648) × (to_z w32 (4294967295 - of_z w32 x) ≡ pos n) × (4294967295 - n ≡ of_z w32 x)
low (pos n) f e = absurd (let z : ◌≡◌ {A = ℕ} 0 1 = cc (leb-zero n) in omega arith)
low (negsuc n) f e =
    let h : n < 2147483648 = f.sfits in
    let s : 4294967295 - of_z w32 (negsuc n) ≡ n = omega arith in
    (n, h, ap (to_z w32) s ∙ to_z_pos w32 n h, omega arith)
