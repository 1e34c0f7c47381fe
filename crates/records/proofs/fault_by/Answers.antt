-- `records::fault_by` meets its contract: the front, then 14 by the first words, then what the kind's own admission has found.
use Rattle.whole.proofs.Basics.{◌≡◌, ◌∙◌, refl, sym, ap, Bool, true, false, arith, eqb, length}
use Rattle.std.proofs.lemmas.Result.{err_from_is_err_and}
use Rattle.stored.specs.Words.{values}
use Rattle.formula.specs.Blank.{blank_of}
use Rattle.faults.proofs.Chain.{fault_some}
use Rattle.table.proofs.Rule.{ruled}
use Rattle.layout.specs.Fields.{words_of, Complete}
use Rattle.records.specs.Records.{WordsOf}
use Rattle.records.proofs.Front.{Front, front_stops, whole, most_size, words_are, blank_stops, front_passes}
use Rattle.records.proofs.fault_by.Given as given
use Rattle.records.proofs.fault_by.Goals as goal
use Rattle.records.proofs.fault_by.Goals.{In_ok-front_fault}

pub front_fault-requires : goal.front_fault-requires
front_fault-requires g c = rw c.row_of-row.ensures (ruled g.row.CODE, c.requires.2, c.requires.1)

pub returns-in_err-front_fault : goal.returns-in_err-front_fault
returns-in_err-front_fault g c =
    let p = err_from_is_err_and c.from_residual.result c.from_residual.ensures.1 in
    let front : Front g.row.CODE c.row_of-row.result c.args.b.now c.args.seen c.args.count c.args.next _ = record { row = c.row_of-row.ensures; class = c.requires.2; short = c.requires.1; fault = c.in_err-front_fault.ensures } in
    rw (p.1, p.2) (front_stops c.args.s front (fault_some _))

-- ---- past the front
front : (g : given.Over) (c : In_ok-front_fault g) → Front g.row.CODE c.row_of-row.result c.args.b.now c.args.seen c.args.count c.args.next 0
front g c = record { row = c.row_of-row.ensures; class = c.requires.2; short = c.requires.1; fault = c.in_ok-front_fault.ensures }

pub shape_of-shape-requires : goal.shape_of-shape-requires
shape_of-shape-requires g c = let d = whole (front g c) in (d.ruled, omega (arith, d.laid.exact), d.most)

pub words-words-requires : goal.words-words-requires
words-words-requires g c = whole (front g (goal.at.words-words-requires g c).In_ok-front_fault)

pub blank-requires : goal.blank-requires
blank-requires g c =
    let f = front g (goal.at.blank-requires g c).In_ok-front_fault in
    rw c.shape_of-shape.ensures (words_are f c.words-words.result.now c.words-words.ensures)

pub returns-then-blank : goal.returns-then-blank
returns-then-blank g c =
    let f = front g (goal.at.returns-then-blank g c).In_ok-front_fault in
    blank_stops f c.args.s (rw c.words-words.ensures at c.words_first.ensures) (sym (rw (c.shape_of-shape.ensures, c.words-words.ensures) at c.blank.ensures) ∙ c.if-blank.true)

pub most-requires : goal.most-requires
most-requires g c = (whole (front g (goal.at.most-requires g c).In_ok-front_fault)).least

pub admission-requires : goal.admission-requires
admission-requires g c =
    let f = front g (goal.at.admission-requires g c).In_ok-front_fault in
    (c.requires.0, rw c.most.ensures (most_size f), rw c.shape_of-shape.ensures (words_are f c.words-words.result.now c.words-words.ensures))

pub returns : goal.returns
returns g c =
    let f = front g (goal.at.returns g c).In_ok-front_fault in
    front_passes f c.args.s c.admission.result (sym (rw (c.shape_of-shape.ensures, c.words-words.ensures) at c.blank.ensures) ∙ c.if-blank.false)
    (rw c.words-words.ensures at c.admission_fault.ensures)
    (rw (c.shape_of-shape.ensures, c.words-words.ensures, c.most.ensures) at c.admission.ensures)
