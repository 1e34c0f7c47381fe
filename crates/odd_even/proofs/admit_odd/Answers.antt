-- `odd_even::admit_odd` meets its contract: within range B_0 is a word, so that the last product's bound may be formed.
use Rattle.whole.proofs.Basics.{sym, arith}
use Rattle.stored.specs.Words.{values}
use Rattle.polynomial.proofs.BoundLaws.{within_most}
use Rattle.odd_even.proofs.SquareLaws.{square_told}
use Rattle.odd_even.proofs.admit_odd.Goals as goal

pub bound_product-requires : goal.bound_product-requires
bound_product-requires c =
    let a = c.args in
    let ws = values a.words.now in
    let low = c.in-Some.low in
    (c.requires.0, omega (arith, within_most a.s _ ws low (square_told a.s a.most ws low (sym c.in-Some.ensures)).1))
