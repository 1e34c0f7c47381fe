-- Linear goals over ℤ: `omega (zarith, ..)` reads ℤ's equations and orders among the hypotheses, and proves one, through the parts.
use Rattle.whole.proofs.Basics.{◌≡◌, ◌+◌, ◌≤◌, arith, ℤ, pos, nat_abs, ◌+ℤ◌, ◌-ℤ◌, ◌*ℤ◌, ◌≤ℤ◌, ◌<ℤ◌}
use Rattle.whole.proofs.Diff.{P, N, v, n, ◌⊕◌, ◌⊗◌, ◌⊝◌, same_out, parts_le, parts_le_out, parts_lt, parts_lt_out, parts_eq, abs_is, size}

pub parts_eq_out : (x y : ℤ) → x ≡ y → P x + N y ≡ P y + N x
parts_eq_out x y e = same_out (v x) (v y) e

pub ruleset zarith = (arith, parts_eq, parts_le, parts_lt, parts_eq_out, parts_le_out, parts_lt_out)

-- ---- examples. The sums and products that a statement has are listed by their reading, `(v a ⊕ v b).is`; a size by `abs_is` or `size`, a fit by `fit_out`
chain : (a b c : ℤ) → a ≤ℤ b → b <ℤ c → a <ℤ c
chain a b c h k = omega zarith

mixed : (a b c : ℤ) → a ≡ b +ℤ (c -ℤ pos 2) → b ≡ pos 3 → a ≤ℤ pos 10 → c ≤ℤ pos 9
mixed a b c e f g = omega (zarith, (v b ⊕ (v c ⊝ n 2)).is)

sized : (a b : ℤ) → nat_abs a ≤ 5 → nat_abs b ≤ 7 → nat_abs (a -ℤ pos 2 *ℤ b) ≤ 19
sized a b f g = omega (zarith, abs_is a, abs_is b, size (v a ⊝ n 2 ⊗ v b))
