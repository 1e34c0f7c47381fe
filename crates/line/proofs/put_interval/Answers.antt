-- Five texts one behind the other.
use Rattle.whole.proofs.Basics.{rules}
use Rattle.text.specs.Text.{signed, Puts}
use Rattle.text.proofs.TextLaws.{behind}
use Rattle.line.proofs.put_interval.Goals as goal

pub returns-clause-put : goal.returns-clause-put
returns-clause-put c =
    let b = c.put_text.new.self in
    let d = c.put_text-2.new.self in
    let low : Puts b.out.now b.end (signed c.args.lo) c.put_signed.new.self.out.now c.put_signed.new.self.end = search rules in
    let high : Puts d.out.now d.end (signed c.args.hi) c.put_signed-2.new.self.out.now c.put_signed-2.new.self.end = search rules in
    behind (behind (behind (behind c.put_text.ensures.put low) c.put_text-2.ensures.put) high) c.put_text-3.ensures.put
