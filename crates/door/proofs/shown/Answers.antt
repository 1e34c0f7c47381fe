-- `door::shown` meets its contract: w is read back from its bits, and `1 << s` does not wrap.
use Rattle.whole.proofs.Basics.{◌≡◌, ◌∙◌, sym, ap₂, subst, ℕ, ◌*◌, ◌%◌, ◌^◌, ◌≤◌, arith, ℤ, pos, w32}
use native.Mathlib.Nat.{one-mul, mod-eq_of_lt}
use lib.Pow.{pow-lt}
use lib.Ieee.{binary64, div, of_int}
use mir.ValLaws.{to_z-of_z}
use Rattle.whole.proofs.Diff.{v, size}
use Rattle.whole.proofs.Fit.{fit_out}
use Rattle.door.specs.Exact.{Exactly}
use Rattle.door.proofs.ExactLaws.{exactly_quotient}
use Rattle.door.proofs.shown.Goals as goal

unit-is : (s : ℕ) → s ≤ 28 → 1 * 2 ^ s % 2 ^ 32 ≡ 2 ^ s
unit-is s h = mod-eq_of_lt (rw one-mul (pow-lt {j = 32} (omega arith))) ∙ one-mul (2 ^ s)

pub returns : goal.returns
returns c =
    let w = c.args.w in
    let s = c.args.s in
    subst (Exactly s w)
    (sym (ap₂ (λ (z : ℤ) (u : ℕ). div binary64 (of_int binary64 z) (of_int binary64 (pos u))) (to_z-of_z w32 w c.ranges.w) (unit-is s c.requires.most)))
    (exactly_quotient s w (omega (arith, c.requires.most)) (omega (arith, size (v w), fit_out (v w) c.ranges.w)))
