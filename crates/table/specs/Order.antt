-- How a formula's fields stand in its record, and what its bytes tell of them.
use Rattle.std.specs.Prelude.{ℕ, ◌+◌, ◌<◌, ◌≤◌, ◌≡◌, refl, cond, ◌⊎◌, eqb}
use Rattle.table.specs.declared.Field.{Field}
use Rattle.table.specs.declared.Row.{Row}
use Rattle.table.specs.Table.{field, none, pieces_by}

-- how many bytes a field takes, and that it stands at a place if it is stored
abbrev pub field_size : Field → ℕ
field_size f = cond (eqb f.at 0) 0 2

abbrev pub Stands : Field → ℕ → Type 0
Stands f place = (f.at ≡ 0) ⊎ (f.at ≡ place)

-- a row whose stored fields stand in the order mode, p, q, from byte 16 up to the words
pub record Ordered (r : Row) : Type 0 where
  pub mode : Stands r.mode 16
  pub p : Stands r.p (16 + field_size r.mode)
  pub q : Stands r.q (16 + field_size r.mode + field_size r.p)
  pub head : r.head ≡ 16 + field_size r.mode + field_size r.p + field_size r.q

-- a first count that stands nowhere is the number of pieces, another field that stands nowhere is 0; a field fits two bytes
pub record Told (r : Row) : Type 0 where
  pub p : r.p.at ≡ 0 → (p q : ℕ) → p ≤ r.p.most → q ≤ r.q.most → pieces_by r p q ≡ p
  pub q : r.q.at ≡ 0 → r.q.most ≡ 0
  pub mode : r.mode.at ≡ 0 → r.mode.most ≡ 0
  pub small : (r.p.most < 65536) × (r.q.most < 65536) × (r.mode.most < 65536)

-- ---- worked examples: a stored field and one that is not
two_bytes : (field_size (field 16 1 12 1) ≡ 2) × (field_size none ≡ 0)
two_bytes = (refl, refl)
