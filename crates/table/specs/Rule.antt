-- What holds of every row of the table.
use Rattle.std.specs.Prelude.{ℕ, ◌+◌, ◌≤◌, ◌≡◌}
use Rattle.formula.specs.Formula.{Counted, word_count}
use Rattle.table.specs.declared.Class.{Class}
use Rattle.table.specs.declared.Class.TheVariants.{StartRecord, FormulaRecord, EndRecord, Unknown}
use Rattle.table.specs.declared.Field.{Field}
use Rattle.table.specs.declared.Row.{Row}
use Rattle.table.specs.Table.{none, framing_count, Within, pieces_by, length_by}

-- how far a class's own fields go: to the count, or to number, lo and hi
abbrev pub least_head : Class → ℕ
least_head StartRecord = 8
least_head FormulaRecord = 16
least_head EndRecord = 8
least_head Unknown = 8

-- the count that a class of records has
abbrev pub count_field : Class → Field
count_field StartRecord = framing_count
count_field FormulaRecord = none
count_field EndRecord = framing_count
count_field Unknown = none

-- counts and mode in the row's ranges are what the formula's kind asks for
abbrev pub Meets : Row → Type 0
Meets r = (p q mode : ℕ) → Within r.p p → Within r.q q → Within r.mode mode → Counted r.kind p q mode

-- and there are as many pieces as the kind has words
abbrev pub Many : Row → Type 0
Many r = (p q : ℕ) → word_count r.kind p q ≡ pieces_by r p q

-- a class of records that are no formulas
abbrev pub Framing : Class → Type 0
Framing StartRecord = Unit
Framing FormulaRecord = ⊥
Framing EndRecord = Unit
Framing Unknown = Unit

-- a class that rows of the table have
abbrev pub Known : Class → Type 0
Known StartRecord = Unit
Known FormulaRecord = Unit
Known EndRecord = Unit
Known Unknown = ⊥

-- neither counts of pieces nor pieces: a record of the row is as long as its head
pub record Bare (r : Row) : Type 0 where
  pub base : r.base ≡ 0
  pub p : r.p ≡ none
  pub q : r.q ≡ none

-- the fields stand in front of the pieces, an array of 32 holds these, and the longest record has at most 120 bytes; a start and an end
-- have their count; a formula's pieces are words, and its row meets its kind; any other row is bare
pub record Ruled (r : Row) : Type 0 where
  pub least : least_head r.class ≤ r.head
  pub most : r.head ≤ 20
  pub p : r.p.at + 2 ≤ r.head
  pub q : r.q.at + 2 ≤ r.head
  pub mode : r.mode.at + 2 ≤ r.head
  pub count : r.count.at + 2 ≤ r.head
  pub pieces : pieces_by r r.p.most r.q.most ≤ 32
  pub longest : length_by r r.p.most r.q.most ≤ 120
  pub counted : r.count ≡ count_field r.class
  pub words : r.class ≡ FormulaRecord → r.width ≡ 4
  pub kind : r.class ≡ FormulaRecord → Meets r
  pub many : r.class ≡ FormulaRecord → Many r
  pub bare : Framing r.class → Bare r
