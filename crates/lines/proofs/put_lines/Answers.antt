-- At each turn the formula records that are left stand ahead, and the lines that are left are theirs.
use Rattle.whole.proofs.Basics.{◌≡◌, ◌∙◌, ap, refl, arith, length, ◌-◌, ◌+◌, ◌<◌}
use Rattle.stored.specs.Numbers.{number4}
use Rattle.layout.proofs.Cut.{length-bytes_at}
use Rattle.text.proofs.TextLaws.{begin, less, done}
use Rattle.lines.proofs.LineLaws.{here, one_line, no_line, long, start_reach, in_order, shape_of_count}
use Rattle.lines.proofs.put_lines.Goals as goal

pub record_at-place-requires : goal.record_at-place-requires
record_at-place-requires c = start_reach _ _ _ (shape_of_count _ _ _ c.requires.0)

pub loop-init : goal.loop-init
loop-init c =
    let h = shape_of_count _ _ _ c.requires.0 in
    let n = ap length c.record_at-place.ensures ∙ length-bytes_at _ _ (start_reach _ _ _ h) in
    let z : c.args.count - 0 ≡ c.args.count = omega arith in
    rw (n, z) (record { same_reference = refl; same_length = refl; ahead = (in_order _ _ _ h).0; room = omega arith; lines = begin _ _ _ })

pub record_at-b-requires : goal.record_at-b-requires
record_at-b-requires c = (here _ _ _ _ (omega arith) c.loop.invariant.ahead).0.reach

pub put_line-requires : goal.put_line-requires
put_line-requires c =
    let standing = (here _ _ _ _ (omega arith) c.loop.invariant.ahead).0 in
    (omega arith, rw c.record_at-b.ensures (long _ _ _ standing))

pub overflow_add-place : goal.overflow_add-place
overflow_add-place c =
    let standing = (here _ _ _ _ (omega arith) c.loop.invariant.ahead).0 in
    let size : length c.record_at-b.result.now ≡ number4 c.args.s.now c.loop.place = ap length c.record_at-b.ensures ∙ length-bytes_at _ _ standing.reach in
    record { fits = omega (arith, standing.reach.whole) }

pub loop-preserved : goal.loop-preserved
loop-preserved c =
    let left : 0 < c.args.count - c.loop.counter = omega arith in
    let ahead = here _ _ _ _ left c.loop.invariant.ahead in
    let size : length c.record_at-b.result.now ≡ number4 c.args.s.now c.loop.place = ap length c.record_at-b.ensures ∙ length-bytes_at _ _ ahead.0.reach in
    let e : c.args.count - (c.loop.counter + 1) ≡ c.args.count - c.loop.counter - 1 = omega arith in
    let line = rw c.record_at-b.ensures at c.put_line.ensures.put in
    let rest = rw (one_line (c.args.count - c.loop.counter) c.args.s.now c.loop.place left) at c.loop.invariant.lines in
    rw (size, e) (record {
      same_reference = c.put_line.ensures.same_reference ∙ c.loop.invariant.same_reference;
      same_length = c.put_line.ensures.same_length ∙ c.loop.invariant.same_length;
      ahead = ahead.1;
      room = omega arith;
      lines = less rest line;
    })

pub returns-clause-put : goal.returns-clause-put
returns-clause-put c =
    let z : c.args.count - c.loop.counter ≡ 0 = omega arith in
    done (rw (no_line (c.args.count - c.loop.counter) c.args.s.now c.loop.place z) at c.loop.invariant.lines)
