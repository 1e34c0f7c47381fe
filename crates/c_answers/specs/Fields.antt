-- A formula's fields as C has them: kind, number, lo, hi, p, q, mode and 32 words.
use Rattle.std.specs.Prelude.{ℕ, ◌≡◌, refl, List, [], ℤ, pos}
use Rattle.formula.specs.declared.Kind.TheVariants.{Root, NoFormula}
use Rattle.formula.specs.declared.Formula.{Formula}
use Rattle.table.specs.Table.{rows, first_row, row_of}
use Rattle.table.specs.Codes.{code_for}
use Rattle.layout.specs.Fields.{shape, formula, padded}
use Rattle.c_answers.specs.declared.answers.Fields.{Fields}

abbrev pub fields : ℕ → ℕ → ℤ → ℤ → ℕ → ℕ → ℕ → List ℤ → Fields
fields k n lo hi p q m ws = record { kind = k; number = n; lo = lo; hi = hi; p = p; q = q; mode = m; words = ws }

-- the kind goes out as its record's code
abbrev pub fields_of : Formula → Fields
fields_of f = fields (code_for f.shape.kind) f.number f.lo f.hi f.shape.p f.shape.q f.shape.mode f.words

abbrev pub no_fields : Fields
no_fields = fields 0 0 (pos 0) (pos 0) 0 0 0 (padded [])

-- and comes in by the table's row of the code; a code that is no formula's has a row of the kind NoFormula
abbrev pub formula_by : Fields → Formula
formula_by x = formula x.number (shape (row_of x.kind).kind x.p x.q x.mode) x.lo x.hi x.words

-- ---- worked examples: the root of the paper's listing; an end record is no formula
root_in_lem : formula_by (fields 0x0013 1 (pos 0) (pos 33554432) 0 0 0 (padded [])) ≡ formula 1 (shape Root 0 0 0) (pos 0) (pos 33554432) (padded [])
unfolding rows first_row row_of
root_in_lem = refl

end_in : formula_by (fields 0xffff 1 (pos 0) (pos 0) 0 0 0 (padded [])) ≡ formula 1 (shape NoFormula 0 0 0) (pos 0) (pos 0) (padded [])
unfolding rows first_row row_of
end_in = refl
