-- A row as the code keeps it: its numbers side by side.
use Rattle.std.specs.Prelude.{ℕ, ◌+◌, ◌≡◌, refl, List, [], ◌∷◌, get_or}
use Rattle.table.specs.declared.Field.{Field}
use Rattle.table.specs.declared.Line.{Line}
use Rattle.table.specs.declared.Row.{Row}
use Rattle.table.specs.Table.{rows, field, first_row, row_of}

abbrev pub line : Row → Line
line r =
    record {
      code = r.code;
      class = r.class;
      kind = r.kind;
      numbers = r.head ∷ r.width ∷ r.base
          ∷ r.p.at ∷ r.p.least ∷ r.p.most ∷ r.p.each
          ∷ r.q.at ∷ r.q.least ∷ r.q.most ∷ r.q.each
          ∷ r.mode.at ∷ r.mode.least ∷ r.mode.most ∷ r.mode.each
          ∷ r.count.at ∷ r.count.least ∷ r.count.most ∷ r.count.each
          ∷ [];
    }

-- the field whose four numbers stand from k on
abbrev pub field_from : List ℕ → ℕ → Field
field_from l k = field (get_or l k 0) (get_or l (k + 1) 0) (get_or l (k + 2) 0) (get_or l (k + 3) 0)

-- ---- worked examples: a rational's numbers; a start's count, the last of the four fields
rational_numbers_lem : (line (row_of 0x0011)).numbers ≡ 20 ∷ 4 ∷ 0 ∷ 16 ∷ 1 ∷ 12 ∷ 1 ∷ 18 ∷ 1 ∷ 12 ∷ 1 ∷ 0 ∷ 0 ∷ 0 ∷ 0 ∷ 0 ∷ 0 ∷ 0 ∷ 0 ∷ []
unfolding rows first_row row_of
rational_numbers_lem = refl

last_field : field_from (line (row_of 0x0001)).numbers 15 ≡ field 6 1 64 0
unfolding rows first_row row_of
last_field = refl
