-- `turn::sine_fault` meets its contract: the kind is that of the record's row, the ends are the record's own.
use Rattle.whole.proofs.Basics.{◌≡◌, ◌∙◌, sym, ap, ap₂, List, ℕ, arith, w32}
use Rattle.std.proofs.lemmas.Result.{err_from_is_err_and}
use Rattle.whole.proofs.Fit.{fit_abs}
use Rattle.whole.proofs.Held.{held, known}
use Rattle.table.specs.declared.Row.{Row}
use Rattle.table.specs.Table.{row_of}
use Rattle.layout.specs.Fields.{code_of}
use Rattle.faults.proofs.Chain.{err_stops, ok_passes}
use Rattle.sheet.specs.Reader.{formula_in}
use Rattle.sheet.proofs.Words.{complete_record, fit}
use Rattle.board.proofs.ReadingLaws.{kind_in, lo_in, hi_in}
use Rattle.turn.specs.Sine.{odd_fault, span_fault}
use Rattle.turn.proofs.sine_fault.Goals as goal

-- what the row's kind gives, the formula's does
by_kind : (b : List ℕ) (code : ℕ) (row : Row) → code ≡ code_of b → row ≡ row_of code → odd_fault row.kind ≡ odd_fault (formula_in b).shape.kind
by_kind b code row e q = ap odd_fault (ap (λ (r : Row). r.kind) (rw e at q) ∙ sym (kind_in b))

pub returns-in_err-odd_fault : goal.returns-in_err-odd_fault
returns-in_err-odd_fault c =
    let p = err_from_is_err_and c.from_residual.result c.from_residual.ensures.1 in
    rw (p.1, p.2) (err_stops _ _ (c.in_err-odd_fault.ensures ∙ by_kind c.args.b.now _ _ c.code.ensures c.row_of-row.ensures))

pub lo-requires : goal.lo-requires
lo-requires c = (complete_record _ c.requires.1.one).least

pub hi-requires : goal.hi-requires
hi-requires c = (complete_record _ c.requires.1.one).least

pub returns : goal.returns
returns c =
    let b = c.args.b.now in
    let u = (fit c.args.s b c.requires.1).sound in
    ok_passes (c.in_ok-odd_fault.ensures ∙ by_kind b _ _ c.code.ensures c.row_of-row.ensures)
    (c.span_fault.ensures
    ∙ ap₂ (span_fault c.args.s)
    (held {w = w32} (known (c.lo.ensures ∙ sym (lo_in b)) (fit_abs (omega (arith, u.low)))))
    (held {w = w32} (known (c.hi.ensures ∙ sym (hi_in b)) (fit_abs (omega (arith, u.high))))))
