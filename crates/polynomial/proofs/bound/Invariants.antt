-- `low` is the bound of the coefficients from i on.
use Rattle.std.proofs.Common.{◌≡◌, ◌≤◌, drop, length}
use Rattle.stored.specs.Words.{values}
use Rattle.polynomial.specs.Polynomial.{bound_of}
use Rattle.std.specs.Prelude.{Some}
use Rattle.polynomial.proofs.bound.Given as goal

abbrev pub invariant-loop-i : goal.invariant-loop-i
invariant-loop-i l = record {
  inside : l.i ≤ length l.words;
  word : l.low ≤ 2147483647;
  low : bound_of l.s l.most (drop l.i (values l.words)) ≡ Some l.low;
}
