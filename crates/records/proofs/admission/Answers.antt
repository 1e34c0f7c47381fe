-- `records::admission` meets its contract, kind by kind.
use Rattle.whole.proofs.Basics.{◌≡◌, ◌∙◌, ap₂, take, drop}
use Rattle.stored.specs.Words.{values}
use Rattle.stored.proofs.ValuesLaws.{length-values, values_take, values_rest}
use Rattle.rational.specs.Rational.{rational_admission}
use Rattle.formula.proofs.JudgedLaws.{polynomial_judged, rational_judged, odd_judged, even_judged}
use Rattle.records.proofs.admission.Goals as goal

pub returns-in-Polynomial : goal.returns-in-Polynomial
returns-in-Polynomial c = rw (c.in-Polynomial.is, c.admit.ensures) (polynomial_judged c.args.s c.args.most (values c.args.words.now) c.args.shape.p c.args.shape.q c.args.shape.mode (length-values c.args.words.now ∙ rw c.in-Polynomial.is at c.requires.2.0))

pub returns-in-Rational : goal.returns-in-Rational
returns-in-Rational c =
    let a = c.args in
    let p = a.shape.p in
    let ws = a.words.now in
    let found : c.admit-in-Rational.result ≡ rational_admission a.s a.most (take p (values ws)) (drop p (values ws)) = c.admit-in-Rational.ensures ∙ ap₂ (rational_admission a.s a.most) (values_take p ws) (values_rest p ws) in
    rw (c.in-Rational.is, found) (rational_judged a.s a.most (values ws) p a.shape.q a.shape.mode (length-values ws ∙ rw c.in-Rational.is at c.requires.2.0))

pub returns-in-Odd : goal.returns-in-Odd
returns-in-Odd c = rw (c.in-Odd.is, c.admit_odd.ensures) (odd_judged c.args.s c.args.most (values c.args.words.now) c.args.shape.p c.args.shape.q c.args.shape.mode (length-values c.args.words.now ∙ rw c.in-Odd.is at c.requires.2.0))

pub returns-in-Even : goal.returns-in-Even
returns-in-Even c = rw (c.in-Even.is, c.admit_even.ensures) (even_judged c.args.s c.args.most (values c.args.words.now) c.args.shape.p c.args.shape.q c.args.shape.mode (length-values c.args.words.now ∙ rw c.in-Even.is at c.requires.2.0))
