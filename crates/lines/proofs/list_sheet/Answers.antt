-- The listing is put at the front, and has room there.
use Rattle.whole.proofs.Basics.{◌≡◌, ◌∙◌, refl, ap, arith, length, rules}
use lib.ListN.{length-take}
use Rattle.text.proofs.TextLaws.{front}
use Rattle.lines.proofs.list_sheet.Goals as goal

pub returns-clause-text : goal.returns-clause-text
returns-clause-text c =
    let put = rw (c.new-page.ensures.buffer, c.new-page.ensures.end) at c.put_listing.ensures.put in
    let room : 4096 ≡ length c.args.out.now = search rules in
    let long : length c.text.result.now ≡ c.put_listing.new.page.end =
    ap length c.text.ensures ∙ simp length-take (omega (arith, room, ap length c.new-page.ensures.buffer)) in
    rw (long, c.drop-page.ensures) (front {m = 4096} refl put (omega arith) room).0
