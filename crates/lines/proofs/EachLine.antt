-- Promise: of a sheet of at most 8,192 bytes the listing is the count line and exactly the lines of its formulas, in order.
use Rattle.whole.proofs.Basics.{◌≡◌, ◌∙◌, ap, List, ◌++◌, ℕ, ◌≤◌, length}
use Rattle.records.specs.Sheets.{SheetOf}
use Rattle.sheet.proofs.AcceptedShape.{shape_count}
use Rattle.line.specs.Line.{count_line}
use Rattle.lines.specs.Listing.{places, lines_of, listing}
use Rattle.lines.proofs.LineLaws.{in_order, not_too_long}
use Rattle.std.specs.Prelude.{Ok}

pub each_line : (c : ℕ) (bytes : List ℕ) (h : SheetOf places c bytes) → length bytes ≤ 8192 → listing bytes ≡ count_line c ++ lines_of h.formulas
each_line c bytes h n = not_too_long bytes (Ok c) n (shape_count places c bytes h) ∙ ap (λ (t : List ℕ). count_line c ++ t) (in_order places c bytes h).1
