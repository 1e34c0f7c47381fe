-- When a whole number fits a signed width, by its parts.
use Rattle.whole.proofs.Basics.{ℕ, ◌+◌, ◌^◌, ◌≤◌, ◌<◌, arith, ℤ, pos, negsuc, nat_abs, SFits}
use lib.Signed.{mag}
use mir.Syntax.{Width}
use mir.Val.{hbits}
use Rattle.whole.proofs.Diff.{Diff, P, N, v, abs_is}

mag_lt : (z : ℤ) (H : ℕ) → P z < H + N z → N z ≤ P z + H → mag z < H
mag_lt (pos a) H f g = omega arith
mag_lt (negsuc a) H f g = omega arith

mag_out : (z : ℤ) (H : ℕ) → mag z < H → (P z < H) × (N z ≤ H)
mag_out (pos a) H h = (h, omega arith)
mag_out (negsuc a) H h = (omega arith, h)

pub fit : {w : Width} {z : ℤ} (r : Diff z) → (r.up < 2 ^ hbits w + r.dn) × (r.dn ≤ r.up + 2 ^ hbits w) → SFits w z
fit {w} {z} r f = record { sfits = mag_lt z (2 ^ hbits w) (omega (arith, r.is)) (omega (arith, r.is)) }

pub fit_abs : {w : Width} {z : ℤ} → nat_abs z < 2 ^ hbits w → SFits w z
fit_abs {w} {z} h = fit (v z) (omega (arith, abs_is z))

pub fit_out : {w : Width} {z : ℤ} (r : Diff z) → SFits w z → (r.up < 2 ^ hbits w + r.dn) × (r.dn ≤ r.up + 2 ^ hbits w)
fit_out {w} {z} r h = (omega (arith, r.is, mag_out z (2 ^ hbits w) h.sfits), omega (arith, r.is, mag_out z (2 ^ hbits w) h.sfits))
