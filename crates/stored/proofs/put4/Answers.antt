-- The bytes are put in the place of as many.
use Rattle.whole.proofs.Basics.{◌≡◌, ◌∙◌, arith}
use Rattle.stored.specs.Numbers.{bytes4}
use Rattle.stored.proofs.StoreLaws.{put_part, length-bytes4}
use Rattle.stored.proofs.put4.Goals as goal

pub returns : goal.returns
unfolding bytes4
returns c =
    let e : c.copy_from_slice.new.self ≡ bytes4 c.args.n = c.copy_from_slice.ensures.after ∙ c.to_le_bytes.ensures in
    put_part c.args.out.now _ _ c.args.at _ e (omega (arith, length-bytes4 c.args.n)) (omega (arith, c.requires))
