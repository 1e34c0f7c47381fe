-- `rational::admit_ratio` meets its contract: each way out is a step of proofs/AdmissionSteps.antt.
use Rattle.whole.proofs.Basics.{◌*◌, ◌≤◌, arith, rules}
use native.Mathlib.Nat.{mul-le-mul}
use Rattle.polynomial.proofs.BoundLaws.{bound_product_most}
use Rattle.rational.proofs.AdmissionSteps.{sum_left, too_near, quotient_left, quotient_in}
use Rattle.rational.proofs.admit_ratio.Statement.{statement}
use Rattle.rational.proofs.admit_ratio.Tie as tie

add-if1 : tie.Need-overflow_add-d
add-if1 c =
    let a = c.args in
    let k : a.most ≤ 4294967295 = omega (arith, c.ranges.most.fits) in
    let m : a.rest * a.most ≤ 2147483647 * 4294967295 = mul-le-mul c.requires.1 k in
    record { fits = omega (arith, c.ranges.first.fits, c.bound_product-g.ensures, bound_product_most a.s a.rest a.most) }

returns : tie.Need-returns-then-d-g-gt-LARGEST
returns c =
    let b = c.before in
    let a = b.args in
    sum_left a.s a.most a.top a.first a.rest b.bound_product-g.result b.bound_product-g.ensures c.if-d-g-gt-LARGEST.true

returns-2 : tie.Need-returns-then-d-g
returns-2 c =
    let b = c.before.before in
    let a = b.args in
    too_near a.s a.most a.top a.first a.rest b.bound_product-g.result b.bound_product-g.ensures c.if-d-g-gt-LARGEST.false c.if-d-g.true

returns-3 : tie.Need-returns-then-bound_quotient-gt-LARGEST
returns-3 c =
    let q = c.before in
    let b = q.before.before.before in
    let a = b.args in
    quotient_left a.s a.most a.top a.first a.rest b.bound_product-g.result b.bound_product-g.ensures q.if-d-g-gt-LARGEST.false q.if-d-g.false q.bound_quotient.result q.bound_quotient.ensures c.if-bound_quotient-gt-LARGEST.true

returns-4 : tie.Need-returns
returns-4 c =
    let q = c.before in
    let b = q.before.before.before in
    let a = b.args in
    quotient_in a.s a.most a.top a.first a.rest b.bound_product-g.result b.bound_product-g.ensures q.if-d-g-gt-LARGEST.false q.if-d-g.false q.bound_quotient.result q.bound_quotient.ensures c.if-bound_quotient-gt-LARGEST.false

pub admit_ratio_spec : {M : Type 1} → statement M
admit_ratio_spec =
    tie.close
    (tie.spec
    (λ c κs. search rules)
    add-if1
    returns
    returns-2
    (λ c. search rules)
    (λ c. search rules)
    (λ c κs. search rules)
    returns-3
    returns-4)
