-- At each turn the formula records that are left stand ahead, and the lines that are left are theirs.
use Rattle.whole.proofs.Basics.{◌≡◌, ◌+◌, ◌-◌, ◌*◌, ◌≤◌, length}
use Rattle.stored.specs.Numbers.{number4}
use Rattle.text.proofs.TextLaws.{Left}
use Rattle.lines.specs.Listing.{places, lines_from}
use Rattle.lines.proofs.LineLaws.{Ahead}
use Rattle.lines.proofs.put_lines.Given as goal

abbrev pub invariant-loop : goal.invariant-loop
invariant-loop l =
    record {
      same_reference : l.page.out.ghost_name ≡ l.fn.page.out.ghost_name;
      same_length : length l.page.out.now ≡ length l.fn.page.out.now;
      ahead : Ahead places (l.count - l.counter) l.s l.place;
      room : l.page.end + 41 * (l.count - l.counter) ≤ l.fn.page.end + 41 * l.count;
      lines : Left l.fn.page.out.now l.fn.page.end (lines_from l.count l.s (number4 l.s 0)) l.page.out.now l.page.end (lines_from (l.count - l.counter) l.s l.place);
    }
