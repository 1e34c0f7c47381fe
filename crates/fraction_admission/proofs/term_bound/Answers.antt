-- `fraction_admission::term_bound` meets its contract: a bound quotient of words leaves room for the sum.
use Rattle.whole.proofs.Basics.{arith}
use Rattle.fraction_admission.proofs.AdmissionSteps.{quotient_most}
use Rattle.fraction_admission.proofs.term_bound.Goals as goal

pub overflow_add-c : goal.overflow_add-c
overflow_add-c c =
    let q = quotient_most c.args.s c.bound_product-g.result c.args.l c.requires.0 c.if-g-gt-LARGEST.false c.requires.1 in
    record { fits = omega (arith, q, c.bound_quotient-q.ensures, c.magnitude-c.type_inv) }
