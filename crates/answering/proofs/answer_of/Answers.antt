-- `answering::answer_of` meets its contract: a test for each end of the interval, then the formula's answer.
use Rattle.whole.proofs.Basics.{◌≡◌, ◌∙◌, sym, ap, subst, List, ℕ, arith, ℤ, ◌≤ℤ◌, w32, SFits, rules}
use Rattle.whole.proofs.Fit.{fit_abs}
use Rattle.whole.proofs.Held.{Held, held, arg, known, tested_lt, tested_ge}
use Rattle.formula.specs.Formula.{worked_of, Answerable}
use Rattle.layout.specs.Fields.{row_for, shape_of, formula_of, lo_of, hi_of}
use Rattle.records.specs.Sheets.{FormulaBytes}
use Rattle.sheet.specs.Reader.{formula_in}
use Rattle.sheet.proofs.Words.{complete_record, words_in_lem, fit}
use Rattle.answering.specs.Answering.{answered}
use Rattle.answering.proofs.IntervalLaws.{below_low, above_high, inside, answerable}
use Rattle.answering.proofs.answer_of.Goals as goal
use Rattle.answering.proofs.answer_of.Goals.{Else-hi-x, then-x-lo-via-then-x-lo, then-x-lo-via-else-x-lo+then-hi-x}
use Rattle.std.specs.Prelude.{Ok}

-- the two ends, as they are read
module _ (s : ℕ) (b : List ℕ) (f : FormulaBytes s b) (r : ℤ) where
  low : r ≡ lo_of b → Held w32 r (formula_in b).lo
  unfolding formula_of
  low e = known e (fit_abs (omega (arith, (fit s b f).sound.low)))

  high : r ≡ hi_of b → Held w32 r (formula_in b).hi
  unfolding formula_of
  high e = known e (fit_abs (omega (arith, (fit s b f).sound.high)))

pub lo-requires : goal.lo-requires
lo-requires c = (complete_record _ c.requires.1.one).least

pub hi-requires : goal.hi-requires
hi-requires c = (complete_record _ c.requires.1.one).least

pub returns-then-x-lo : goal.returns-then-x-lo
returns-then-x-lo c =
    let a = c.args in
    let f = formula_in a.b.now in
    let x : Held w32 a.x a.x = arg c.ranges.x in
    rw c.from.ensures
    (elim c.then-x-lo.branch [
      | then-x-lo-via-then-x-lo w ↦ below_low a.s f a.x (tested_lt x (low a.s a.b.now c.requires.1 c.lo.result c.lo.ensures) w.if-x-lo.true)
      | then-x-lo-via-else-x-lo+then-hi-x w ↦ above_high a.s f a.x (tested_lt (high a.s a.b.now c.requires.1 w.hi.result w.hi.ensures) x w.if-hi-x.true)
    ])

-- past the two tests, the argument is inside
module _ (c : Else-hi-x) where
  x-held : Held w32 c.args.x c.args.x
  x-held = arg c.ranges.x

  above : (formula_in c.args.b.now).lo ≤ℤ c.args.x
  above = tested_ge x-held (low c.args.s c.args.b.now c.requires.1 c.lo.result c.lo.ensures) c.if-x-lo.false

  below : c.args.x ≤ℤ (formula_in c.args.b.now).hi
  below = tested_ge (high c.args.s c.args.b.now c.requires.1 c.hi.result c.hi.ensures) x-held c.if-hi-x.false

pub worked_at-w-requires : goal.worked_at-w-requires
unfolding formula_of
worked_at-w-requires c =
    let a = c.args in
    let b = a.b.now in
    let h = shape_of (row_for b) b in
    (c.requires.1.one, rw (held (x-held c)) (subst (λ (ws : List ℤ). Answerable a.s h ws a.x) (words_in_lem (row_for b) b) (answerable a.s (formula_in b) a.x (above c) (below c) c.requires.0 (fit a.s b c.requires.1))))

pub returns : goal.returns
unfolding formula_of
returns c =
    let d = (goal.at.returns c).Else-hi-x in
    let a = c.args in
    let b = a.b.now in
    let h = shape_of (row_for b) b in
    let r = c.worked_at-w in
    let w : SFits w32 r.result.word = search rules in
    ap (λ (z : ℤ). answered z r.result.steps r.result.exact) (held (arg {w = w32} w))
    ∙ ap Ok (rw (held (x-held d)) at r.ensures ∙ ap (λ (ws : List ℤ). worked_of a.s h ws a.x) (sym (words_in_lem (row_for b) b)))
    ∙ inside a.s (formula_in b) a.x (above d) (below d)
