-- Promise: the fields that C is given for a formula are, handed back, that formula; and a code that is no formula's names no formula.
use Rattle.whole.proofs.Basics.{◌≡◌, ℕ}
use Rattle.formula.specs.declared.Kind.TheVariants.{NoFormula}
use Rattle.formula.specs.declared.Formula.{Formula}
use Rattle.table.specs.declared.Class.TheVariants.{FormulaRecord}
use Rattle.table.specs.Table.{row_of}
use Rattle.table.proofs.CodeLaws.{kind_of_row, no_formula_lem, other_kind}
use Rattle.layout.specs.Fields.{shape, formula}
use Rattle.c_answers.specs.Fields.{fields_of, formula_by}

pub fields_back : (f : Formula) → formula_by (fields_of f) ≡ f
fields_back f = λ i. formula f.number (shape (kind_of_row f.shape.kind i) f.shape.p f.shape.q f.shape.mode) f.lo f.hi f.words

pub no_other_kind : (c : ℕ) → ((row_of c).class ≡ FormulaRecord → ⊥) → (row_of c).kind ≡ NoFormula
no_other_kind c h = other_kind c (no_formula_lem (row_of c).class h)
