-- `turn::sine_of` meets its contract: 15, or the answer at the argument, which lies in the interval, so that it is a word, with the
-- argument's mark joined to it.
use Rattle.whole.proofs.Basics.{◌∙◌, sym, ap, subst, w32, SFits, rules}
use Rattle.whole.proofs.Held.{held, arg}
use Rattle.whole.proofs.Order.{≤ℤ_trans}
use Rattle.word.specs.Words.{Word}
use Rattle.sheet.specs.Reader.{formula_in}
use Rattle.sheet.proofs.Words.{fit}
use Rattle.answering.specs.Answering.{evaluation_word, answer_at}
use Rattle.answering.proofs.MarkLaws.{marked_word}
use Rattle.answering.proofs.IntervalLaws.{inside, answerable}
use Rattle.board.proofs.AnswersInside.{odd_word}
use Rattle.turn.specs.Angles.{quarter_of, rest_of, argument_of}
use Rattle.turn.proofs.ArgumentLaws.{rest_most, argument_low, argument_high}
use Rattle.turn.proofs.FaultLaws.{sine_needs}
use Rattle.turn.proofs.sine_of.Goals as goal

pub signed-requires : goal.signed-requires
signed-requires c =
    let s = c.args.s in
    let a = c.args.angle in
    let f = formula_in c.args.b.now in
    let x = argument_of s a in
    -- what the board answers there
    let w : SFits w32 c.argument-x.result.word = search rules in
    let e = c.answer_of.ensures ∙ ap (answer_at s f) (held (arg {w = w32} w) ∙ c.argument-x.ensures.word) in
    -- it is a word, since there is no fault
    let k = sine_needs s f (sym c.in_ok-sine_fault.ensures) in
    let l = ≤ℤ_trans k.low (argument_low s (quarter_of a) (rest_of a)) in
    let h = ≤ℤ_trans (argument_high s (quarter_of a) (rest_of a) c.requires.0 (rest_most a)) k.high in
    let m = ap evaluation_word c.in_ok-answer.ensures ∙ marked_word c.argument-x.result.exact c.answer_of.result in
    subst Word (ap evaluation_word (inside s f x l h ∙ sym e) ∙ sym m)
    (odd_word s f x k.odd (answerable s f x l h c.requires.0 (fit s c.args.b.now c.requires.1)))
