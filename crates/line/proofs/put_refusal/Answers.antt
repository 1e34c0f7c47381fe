-- Five texts one behind the other.
use Rattle.whole.proofs.Basics.{rules}
use Rattle.text.specs.Text.{decimal, Puts}
use Rattle.text.proofs.TextLaws.{behind}
use Rattle.line.specs.Line.{refusal_line}
use Rattle.line.proofs.put_refusal.Goals as goal

pub returns-clause-put : goal.returns-clause-put
unfolding refusal_line
returns-clause-put c =
    let b = c.put_text.new.self in
    let d = c.put_text-2.new.self in
    let number : Puts b.out.now b.end (decimal c.args.r.number) c.put_decimal.new.self.out.now c.put_decimal.new.self.end = search rules in
    let place : Puts d.out.now d.end (decimal c.args.r.place) c.put_decimal-2.new.self.out.now c.put_decimal-2.new.self.end = search rules in
    behind (behind (behind (behind c.put_text.ensures.put number) c.put_text-2.ensures.put) place) c.put_text-3.ensures.put
