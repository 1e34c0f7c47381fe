-- `odd_even::even` meets its contract: the marks of the square, where it is used, and of the polynomial at it are joined.
use Rattle.whole.proofs.Basics.{◌≡◌, ◌∙◌, sym, ap, ap₂, arith, length, ltb, ℤ, w32, w64}
use Rattle.whole.proofs.Fit.{fit_abs}
use Rattle.whole.proofs.Held.{back, Held, held, arg, known, cast}
use Rattle.word.specs.Exact.{exact_product, square_exact, whole_at}
use Rattle.word.specs.Words.{Word}
use Rattle.word.proofs.LooseLaws.{or_marks, counted_mark}
use Rattle.stored.specs.Words.{values}
use Rattle.stored.proofs.ValuesLaws.{length-values}
use Rattle.odd_even.proofs.even.Goals as goal

-- a word that was put by for the wider one that holds it
stored_held : {q y : ℤ} → q ≡ y → Word y → Held w32 (back w64 q) y
stored_held e h = cast {w = w64} (known e (fit_abs (omega (arith, h)))) (fit_abs (omega (arith, h)))

pub returns-clause-mark : goal.returns-clause-mark
returns-clause-mark c =
    let s = c.args.s in
    let x = c.args.x in
    let words = c.args.words.now in
    let e : back w32 x ≡ x = held (arg c.ranges.x) in
    let square = stored_held (rw e at c.product-square.ensures.value) c.requires.1.1 in
    let mark : whole_at s c.used.result ≡ square_exact (ltb 1 (length (values words))) s x =
    ap (whole_at s) c.used.ensures
    ∙ counted_mark (ltb 1 (length words)) s c.product-square.result.loose (exact_product s x x) (c.product-square.ensures.mark ∙ ap₂ (exact_product s) e e)
    ∙ ap (λ k. square_exact (ltb 1 k) s x) (sym (length-values words))
    in
    or_marks s c.used.result c.answer-a.result.loose _ _ mark (rw (held square) at c.answer-a.ensures.mark)
