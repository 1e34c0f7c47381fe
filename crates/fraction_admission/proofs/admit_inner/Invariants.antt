-- The whole answer is the answer from depth i on, where l is the least size of what stands there; and every number from b_i on is a word, so
-- that where the walk admits, all are.
use Rattle.std.proofs.Common.{◌≡◌, ◌+◌}
use Rattle.stored.specs.Words.{values}
use Rattle.fraction.specs.Admission.{admit_from, admit_inner}
use Rattle.fraction_admission.proofs.AdmissionSteps.{WordsFrom}
use Rattle.fraction_admission.proofs.admit_inner.Given as goal

abbrev pub invariant-loop-i : goal.invariant-loop-i
invariant-loop-i l =
    let ws = values l.words in
    record {
      same : admit_inner l.s l.first l.rest ws l.k ≡ admit_from l.s l.first l.rest ws l.i l.l;
      words : WordsFrom ws (l.i + l.i);
    }
