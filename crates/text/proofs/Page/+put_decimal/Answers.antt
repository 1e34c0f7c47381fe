-- The digits in front of the last one are put first.
use Rattle.text.proofs.TextLaws.{behind, more_digits}
use Rattle.text.proofs.Page.+put_decimal.Goals as goal

pub returns-clause-put : goal.returns-clause-put
returns-clause-put t c = rw (more_digits c.args.n c.if-n-lt10.false c.ranges.n.fits) (behind c.put_decimal.ensures.put c.put_text-2.ensures.put)
