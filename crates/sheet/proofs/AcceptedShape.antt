-- Promise: an accepted sheet is one start, exactly count formula records with strictly rising numbers, one end with the same
-- count, and nothing more; and every such sheet is accepted, with that count.
use Rattle.whole.proofs.Basics.{◌≡◌, sym, ap, subst, List, [], append-nil, ℕ, ◌+◌, arith, length, le-ltb}
use Rattle.records.specs.Sheets.{SheetOf}
use Rattle.walking.specs.Walking.{walk_of, Walked, whole}
use Rattle.walking.proofs.Formulas.{place_in}
use Rattle.walking.proofs.WalkToShape.{shape}
use Rattle.walking.proofs.ShapeToWalk.{walked}
use Rattle.sheet.specs.Reader.{count_value, formula_count, count_answer, Accepted}
use Rattle.sheet.proofs.WhichRefusals.{accepted}
use Rattle.refusal.specs.Guard.{refused_number}
use Rattle.std.specs.Prelude.{Ok, Option, None}

pub accepted_shape : (s : ℕ) (bytes : List ℕ) → Accepted s bytes → SheetOf s (count_value (formula_count s bytes)) bytes
unfolding formula_count
accepted_shape s bytes e =
    let a = accepted s bytes e in
    subst (λ (c : ℕ). SheetOf s c bytes) (sym (ap (λ (r : Walked). count_value (count_answer r)) a.2)) (shape s bytes a.0 a.1 None a.2)

-- the place of any number in it is known too
pub walk_of_lem : (s c : ℕ) (bytes : List ℕ) (h : SheetOf s c bytes) (asked : Option ℕ) → walk_of s bytes 0 asked ≡ whole c (place_in asked (length h.start) None h.formulas)
walk_of_lem s c bytes h asked = rw (append-nil bytes, le-ltb (length bytes) (length bytes + 0) (omega arith)) at (walked s c bytes [] h asked)

pub shape_count : (s c : ℕ) (bytes : List ℕ) → SheetOf s c bytes → formula_count s bytes ≡ Ok c
unfolding formula_count
shape_count s c bytes h = ap count_answer (walk_of_lem s c bytes h None)

pub shape_accepted : (s c : ℕ) (bytes : List ℕ) → SheetOf s c bytes → Accepted s bytes × (count_value (formula_count s bytes) ≡ c)
shape_accepted s c bytes h = (ap refused_number (shape_count s c bytes h), ap count_value (shape_count s c bytes h))
