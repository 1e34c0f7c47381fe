-- `fraction::next` meets its contract: `StepReady` says that each number on the way is a word.
use Rattle.whole.proofs.Basics.{◌≡◌, ℕ, arith, ℤ, ◌+ℤ◌, w32, w64, SFits}
use Rattle.whole.proofs.Fit.{fit_abs}
use Rattle.whole.proofs.Held.{back, Held, fits_code, held, arg, known, cast, wider, plus}
use Rattle.word.specs.Words.{product_of, quotient_of}
use Rattle.word.specs.Exact.{exact_product, exact_quotient, whole_at}
use Rattle.word.proofs.LooseLaws.{or_marks}
use Rattle.fraction.specs.Fraction.{next_of}
use Rattle.fraction.specs.Exact.{step_exact}
use Rattle.fraction.specs.Ready.{StepReady}
use Rattle.fraction.proofs.next.Goals as goal
use Rattle.std.specs.Prelude.{bit_or}

-- the product g and the quotient q, as they are stored and read back
module _ {s : ℕ} {a b v t : ℤ} (r : StepReady s a b v t) (fa : SFits w32 a) (fb : SFits w32 b) (fv : SFits w32 v) (ft : SFits w32 t) {g : ℤ} (eg : g ≡ product_of s (back w32 a) (back w32 v)) where
  held-g : Held w32 (back w64 g) (product_of s a v)
  held-g = cast {w = w64} (known (rw (held (arg fa), held (arg fv)) at eg) (fit_abs (omega (arith, r.term)))) (fit_abs (omega (arith, r.term)))

  module _ {q : ℤ} (eq : q ≡ quotient_of s (back w32 (back w64 g)) (back w32 t)) where
    held-sum : Held w64 (back w64 (back w32 b) +ℤ back w64 q) (next_of s a b v t)
    held-sum =
        let e = rw (held held-g, held (arg ft)) at eq in
        plus (wider tt (arg fb)) (known e (fit_abs (omega (arith, r.ratio)))) (fit_abs (omega (arith, r.sum)))

    held_next : Held w32 (back w64 (back w64 (back w32 b) +ℤ back w64 q)) (next_of s a b v t)
    held_next = cast held-sum (fit_abs (omega (arith, r.sum)))

  mark_is :
      (m n : ℕ)
      → whole_at s m ≡ exact_product s (back w32 a) (back w32 v)
      → whole_at s n ≡ exact_quotient s (back w32 (back w64 g)) (back w32 t)
      → whole_at s (bit_or m n) ≡ step_exact s a v t
  mark_is m n em en = or_marks s m n _ _ (rw (held (arg fa), held (arg fv)) at em) (rw (held held-g, held (arg ft)) at en)

-- ---- the goals
pub overflow_add-word : goal.overflow_add-word
overflow_add-word c = let f = c.ranges in fits_code (held-sum c.requires f.a f.b f.v f.t c.product-g.ensures.value c.quotient-q.ensures.value)

pub overflow_cast-word-2 : goal.overflow_cast-word-2
overflow_cast-word-2 c = let f = c.ranges in fits_code (held_next c.requires f.a f.b f.v f.t c.product-g.ensures.value c.quotient-q.ensures.value)

pub returns-clause-word : goal.returns-clause-word
returns-clause-word c = let f = c.ranges in held (held_next c.requires f.a f.b f.v f.t c.product-g.ensures.value c.quotient-q.ensures.value)

pub returns-clause-mark : goal.returns-clause-mark
returns-clause-mark c = let f = c.ranges in mark_is c.requires f.a f.b f.v f.t c.product-g.ensures.value _ _ c.product-g.ensures.mark c.quotient-q.ensures.mark
