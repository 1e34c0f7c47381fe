-- `records::formula_fault` meets its contract: an arm for each code that a formula has, and one for the others.
use Rattle.whole.proofs.Basics.{◌≡◌, ◌∙◌, refl, sym, ℕ, arith}
use Rattle.table.specs.Table.{rows, first_row, row_of}
use Rattle.layout.specs.Fields.{code_of}
use Rattle.faults.proofs.Chain.{pass}
use Rattle.records.proofs.formula_fault.Goals as goal

pub fault_by-requires : goal.fault_by-requires
unfolding row_of first_row rows
fault_by-requires c = (c.requires.0, c.requires.2, refl)

pub fault_by-requires-in-17 : goal.fault_by-requires-in-17
unfolding row_of first_row rows
fault_by-requires-in-17 c = (c.requires.0, c.requires.2, refl)

pub fault_by-requires-in-18 : goal.fault_by-requires-in-18
unfolding row_of first_row rows
fault_by-requires-in-18 c = (c.requires.0, c.requires.2, refl)

pub fault_by-requires-in-19 : goal.fault_by-requires-in-19
unfolding row_of first_row rows
fault_by-requires-in-19 c = (c.requires.0, c.requires.2, refl)

pub fault_by-requires-in-20 : goal.fault_by-requires-in-20
unfolding row_of first_row rows
fault_by-requires-in-20 c = (c.requires.0, c.requires.2, refl)

pub fault_by-requires-in-21 : goal.fault_by-requires-in-21
unfolding row_of first_row rows
fault_by-requires-in-21 c = (c.requires.0, c.requires.2, refl)

pub returns-in-16 : goal.returns-in-16
unfolding row_of first_row rows
returns-in-16 c = rw (sym c.code.ensures ∙ c.in-16.is) (pass refl refl c.fault_by.ensures)

pub returns-in-17 : goal.returns-in-17
unfolding row_of first_row rows
returns-in-17 c = rw (sym c.code.ensures ∙ c.in-17.is) (pass refl refl c.fault_by-in-17.ensures)

pub returns-in-18 : goal.returns-in-18
unfolding row_of first_row rows
returns-in-18 c = rw (sym c.code.ensures ∙ c.in-18.is) (pass refl refl c.fault_by-in-18.ensures)

pub returns-in-19 : goal.returns-in-19
unfolding row_of first_row rows
returns-in-19 c = rw (sym c.code.ensures ∙ c.in-19.is) (pass refl refl c.fault_by-in-19.ensures)

pub returns-in-20 : goal.returns-in-20
unfolding row_of first_row rows
returns-in-20 c = rw (sym c.code.ensures ∙ c.in-20.is) (pass refl refl c.fault_by-in-20.ensures)

pub returns-in-21 : goal.returns-in-21
unfolding row_of first_row rows
returns-in-21 c = rw (sym c.code.ensures ∙ c.in-21.is) (pass refl refl c.fault_by-in-21.ensures)
