-- `rational::admit` meets its contract: the bounds of the numerator and of the divisor's tail, then `admit_ratio`.
use Rattle.whole.proofs.Basics.{◌≡◌, ◌∙◌, sym, ap, List, ℕ, ◌-◌, ◌<◌, arith, length, take, drop, get_or, pos, nat_abs, w32}
use Rattle.whole.proofs.Held.{held_nat, given}
use Rattle.stored.specs.Words.{values}
use Rattle.stored.proofs.ValuesLaws.{length-values, values_rest, values_at}
use Rattle.polynomial.specs.Polynomial.{bound_of}
use Rattle.polynomial.proofs.BoundLaws.{within_is, within_range}
use Rattle.rational.proofs.AdmissionSteps.{rest_left, ratio_is}
use Rattle.rational.proofs.admit.Goals as goal
use Rattle.std.specs.Prelude.{Option}

-- the divisor has a word; its others stand behind its first
some : (den : List (List ℕ)) → 0 < length den → 0 < length (values den)
some den h = omega (arith, length-values den)

others : (s A : ℕ) (den : List (List ℕ)) (r : Option ℕ) → r ≡ bound_of s A (values (take (length den - 1) (drop 1 den))) → bound_of s A (drop 1 (values den)) ≡ r
others s A den r e = ap (bound_of s A) (sym (values_rest 1 den)) ∙ sym e

pub returns-in_default-bound : goal.returns-in_default-bound
returns-in_default-bound c =
    let a = c.args in
    let den = a.divisor.now in
    rest_left a.s a.most (values a.numerator.now) (values den) (some den c.requires.1) c.in-Some.top (sym c.in-Some.ensures) (others a.s a.most den _ c.in_default-bound.ensures)

pub admit_ratio-requires : goal.admit_ratio-requires
admit_ratio-requires c =
    let a = c.args in
    let den = a.divisor.now in
    let rest = c.in-Some-bound.rest in
    let e = others a.s a.most den _ c.in-Some-bound.ensures in
    let ws = drop 1 (values den) in
    (c.requires.0, omega (arith, within_is a.s a.most ws rest e, within_range a.s a.most ws rest e 0))

pub returns : goal.returns
returns c =
    let a = c.args in
    let den = a.divisor.now in
    let first_is : c.magnitude-first.result ≡ nat_abs (get_or (values den) 0 (pos 0)) = c.magnitude-first.ensures ∙ held_nat (given {w = w32} {x = c.value.result} c.value.type_inv) ∙ ap nat_abs (c.value.ensures ∙ sym (values_at den 0 c.requires.1)) in
    c.admit_ratio.ensures
    ∙ ratio_is a.s a.most (values a.numerator.now) (values den) (some den c.requires.1) c.in-Some.top (sym c.in-Some.ensures) c.in-Some-bound.rest c.magnitude-first.result (others a.s a.most den _ c.in-Some-bound.ensures) first_is
