-- Three texts one behind the other.
use Rattle.text.proofs.TextLaws.{behind}
use Rattle.line.specs.Line.{count_line}
use Rattle.line.proofs.put_count.Goals as goal

pub returns-clause-put : goal.returns-clause-put
unfolding count_line
returns-clause-put c = behind (behind c.put_text.ensures.put c.put_decimal.ensures.put) c.put_text-2.ensures.put
