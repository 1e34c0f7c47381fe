-- The last coefficients that `answer` has taken: their Horner word, and whether it is exact.
use Rattle.std.proofs.Common.{◌≡◌, ◌<◌, drop, length}
use Rattle.word.specs.Exact.{whole_at}
use Rattle.stored.specs.Words.{values}
use Rattle.polynomial.specs.Polynomial.{horner}
use Rattle.polynomial.specs.Exact.{polynomial_exact}
use Rattle.polynomial.proofs.answer.Given as goal

abbrev pub invariant-loop-i : goal.invariant-loop-i
invariant-loop-i l = record {
  some_left : l.i < length l.words;
  word : l.running ≡ horner l.s (drop l.i (values l.words)) l.x;
  mark : whole_at l.s l.loose ≡ polynomial_exact l.s (drop l.i (values l.words)) l.x;
}
