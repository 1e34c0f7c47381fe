-- `answering::worked_at` meets its contract: the kind's own answer, steps and mark, by the row of the record's code.
use Rattle.whole.proofs.Basics.{◌∙◌, sym, ap, List, ℕ, ℤ, arith, length, ◌≤◌}
use Rattle.whole.proofs.Held.{held, arg}
use lib.ListN.{length-take}
use Rattle.std.proofs.lemmas.List.{length-map}
use Rattle.table.specs.declared.Row.{Row}
use Rattle.formula.specs.Formula.{word_count}
use Rattle.layout.specs.Fields.{row_for, shape_of, words_of, formula_of}
use Rattle.sheet.proofs.Words.{complete_record, words_in_lem}
use Rattle.answering.proofs.worked_at.Goals as goal

-- the record's words are no more than its kind and counts ask for
no_more : (r : Row) (b : List ℕ) → length (words_of r b) ≤ word_count (shape_of r b).kind (shape_of r b).p (shape_of r b).q
unfolding formula_of
no_more r b = omega (arith, simp length-take at (ap (length {A = ℤ}) (words_in_lem r b)))

pub words-requires : goal.words-requires
words-requires c = rw (c.row_of-row.ensures, c.code.ensures) (complete_record _ c.requires.0)

pub shape_of-requires : goal.shape_of-requires
shape_of-requires c =
    let d = complete_record _ c.requires.0 in
    rw (c.row_of-row.ensures, c.code.ensures) (d.ruled, omega (arith, d.laid.exact), d.most)

pub answer-requires : goal.answer-requires
answer-requires c =
    let b = c.args.b.now in
    let w = c.words.result.now in
    let e = sym (length-map w _) ∙ ap length c.words.ensures in
    rw (c.words.ensures, c.shape_of.ensures) (rw (c.row_of-row.ensures, c.code.ensures, held (arg c.ranges.x)) (omega (arith, rw (c.row_of-row.ensures, c.code.ensures) at e, no_more (row_for b) b, c.requires.1.sound.room), c.requires.1))
