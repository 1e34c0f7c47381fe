-- The chunks of four bytes are the words that the bytes hold.
use Rattle.whole.proofs.Basics.{◌∙◌, ap}
use Rattle.stored.specs.Words.{values}
use Rattle.stored.proofs.ValuesLaws.{values_of_chunks}
use Rattle.stored.proofs.words.Goals as goal

pub returns-clause-values : goal.returns-clause-values
returns-clause-values c = ap values c.as_chunks_unchecked.ensures.value ∙ values_of_chunks c.args.bytes.now
