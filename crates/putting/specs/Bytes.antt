-- The bytes of a record: a start's or an end's, and a formula's.
use Rattle.std.specs.Prelude.{ℕ, ◌≤◌, ◌≡◌, refl, List, [], ◌∷◌, ◌++◌, cond, eqb, length, ℤ, pos, negsuc}
use Rattle.stored.specs.Numbers.{bytes2, bytes4, pattern}
use Rattle.formula.specs.declared.Kind.TheVariants.{Fraction}
use Rattle.formula.specs.declared.Shape.{Shape}
use Rattle.formula.specs.declared.Formula.{Formula}
use Rattle.formula.specs.Formula.{word_count}
use Rattle.table.specs.declared.Class.TheVariants.{FormulaRecord}
use Rattle.table.specs.declared.Field.{Field}
use Rattle.table.specs.declared.Row.{Row}
use Rattle.table.specs.Table.{rows, first_row, row_of, pieces_by, length_by, Within}
use Rattle.table.specs.Rule.{Ruled}
use Rattle.table.specs.Order.{Ordered}
use Rattle.layout.specs.Fields.{shape, formula, padded, words_in}

-- length, kind, and a formula's number or the count of a start or an end
unfoldable pub front_bytes : ℕ → ℕ → ℕ → List ℕ
front_bytes n code number = (bytes4 n ++ bytes2 code) ++ bytes2 number

-- a start or an end is as long as its head, and has no more
abbrev pub framing_bytes : Row → ℕ → List ℕ
framing_bytes r count = front_bytes r.head r.code count

-- lo and hi
unfoldable pub head_bytes : ℕ → ℕ → ℕ → ℤ → ℤ → List ℕ
head_bytes n code number lo hi = (front_bytes n code number ++ bytes4 (pattern lo)) ++ bytes4 (pattern hi)

-- a count or a mode, where it is stored
unfoldable pub field_bytes : Field → ℕ → List ℕ
field_bytes f n = cond (eqb f.at 0) [] (bytes2 n)

-- in every kind's record the mode stands before the first count, and that before the second
unfoldable pub fields_bytes : Row → Shape → List ℕ
fields_bytes r h = (field_bytes r.mode h.mode ++ field_bytes r.p h.p) ++ field_bytes r.q h.q

unfoldable pub word_bytes : List ℤ → List ℕ
word_bytes [] = []
word_bytes (z ∷ zs) = bytes4 (pattern z) ++ word_bytes zs

unfoldable pub record_bytes : Row → Formula → List ℕ
record_bytes r f =
    (head_bytes (length_by r f.shape.p f.shape.q) r.code f.number f.lo f.hi ++ fields_bytes r f.shape)
    ++ word_bytes (words_in f)

-- a row and a formula of its kind, with counts in their ranges and all its words
pub record Ready (r : Row) (f : Formula) : Type 0 where
  pub ruled : Ruled r
  pub ordered : Ordered r
  pub class : r.class ≡ FormulaRecord
  pub kind : f.shape.kind ≡ r.kind
  pub p : Within r.p f.shape.p
  pub q : Within r.q f.shape.q
  pub long : word_count f.shape.kind f.shape.p f.shape.q ≤ length f.words

-- ---- worked examples: a start of one formula and an end of 64; a fraction of depth 1 in mode 2, its words b0, a1, b1
start_bytes : framing_bytes (row_of 0x0001) 1 ≡ 8 ∷ 0 ∷ 0 ∷ 0 ∷ 1 ∷ 0 ∷ 1 ∷ 0 ∷ []
unfolding rows first_row row_of bytes2 bytes4 front_bytes
start_bytes = refl

end_bytes : framing_bytes (row_of 0xffff) 64 ≡ 8 ∷ 0 ∷ 0 ∷ 0 ∷ 0xff ∷ 0xff ∷ 64 ∷ 0 ∷ []
unfolding rows first_row row_of bytes2 bytes4 front_bytes
end_bytes = refl

fraction_bytes : record_bytes (row_of 0x0012) (formula 258 (shape Fraction 1 0 2) (negsuc 0) (pos 513) (padded (pos 1 ∷ pos 2 ∷ pos 3 ∷ [])))
    ≡ 32 ∷ 0 ∷ 0 ∷ 0 ∷ 0x12 ∷ 0 ∷ 2 ∷ 1 ∷ 255 ∷ 255 ∷ 255 ∷ 255 ∷ 1 ∷ 2 ∷ 0 ∷ 0 ∷ 2 ∷ 0 ∷ 1 ∷ 0 ∷ 1 ∷ 0 ∷ 0 ∷ 0 ∷ 2 ∷ 0 ∷ 0 ∷ 0 ∷ 3 ∷ 0 ∷ 0 ∷ 0 ∷ []
unfolding rows first_row row_of bytes2 bytes4 pieces_by padded front_bytes head_bytes field_bytes fields_bytes word_bytes record_bytes
fraction_bytes = refl
