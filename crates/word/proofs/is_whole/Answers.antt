-- `word::is_whole` meets its contract: the mask leaves the last s digits.
use Rattle.whole.proofs.Basics.{◌∙◌, ap, ℕ, ◌-◌, eqb}
use lib.Bits.{bit_and, and_mask}
use Rattle.word.proofs.is_whole.Goals as goal

pub returns : goal.returns
returns c =
    ap (λ (u : ℕ). eqb (bit_and c.args.loose (u - 1)) 0) c.power_of_two-mask.ensures ∙ ap (λ (k : ℕ). eqb k 0) (and_mask c.args.loose c.args.s)
