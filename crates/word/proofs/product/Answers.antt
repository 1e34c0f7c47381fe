-- `word::product` meets its contract: the sizes' product is a·b's size, and its lower word has the last s digits.
use Rattle.whole.proofs.Basics.{◌∙◌, sym, ap, ap₂, ◌*◌, arith, nat_abs, w32}
use Rattle.whole.proofs.Held.{held, arg}
use Rattle.whole.proofs.Order.{abs_mul}
use Rattle.word.specs.Exact.{whole_at}
use Rattle.word.proofs.LooseLaws.{whole_lower}
use Rattle.word.proofs.product.Goals as goal

pub returns-clause-mark : goal.returns-clause-mark
returns-clause-mark c =
    whole_lower c.args.s c.long_times-n.result (omega (arith, c.requires.0.most))
    ∙ ap (whole_at c.args.s)
    (c.long_times-n.ensures
    ∙ ap₂ ◌*◌ (c.magnitude.ensures ∙ ap nat_abs (held (arg {w = w32} c.ranges.a))) (c.magnitude-2.ensures ∙ ap nat_abs (held (arg {w = w32} c.ranges.b)))
    ∙ sym (abs_mul c.args.a c.args.b))
