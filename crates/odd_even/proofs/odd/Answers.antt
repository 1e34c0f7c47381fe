-- `odd_even::odd` meets its contract: the even answer is a word, and the marks of it and of the last product are joined.
use Rattle.whole.proofs.Basics.{◌≡◌, ◌∙◌, ap₂, List, ℕ, arith, ℤ, w32}
use mathlib.Core.Bool.{◌&&◌}
use Rattle.whole.proofs.Fit.{fit_abs}
use Rattle.whole.proofs.Held.{back, Held, held, arg, known}
use Rattle.word.specs.Words.{Word}
use Rattle.word.proofs.LooseLaws.{or_whole}
use Rattle.stored.specs.Words.{values}
use Rattle.polynomial.proofs.WalkLaws.{running_word}
use Rattle.odd_even.specs.OddEven.{square_of, even_of, OddReady}
use Rattle.odd_even.proofs.odd.Goals as goal

record Ready (s : ℕ) (ws : List ℤ) (x : ℤ) : Type 0 where
  ready : OddReady s ws x

module _ {s : ℕ} {ws : List ℤ} {x : ℤ} (r : Ready s ws x) where
  even_word : Word (even_of s ws x)
  even_word = running_word s ws (square_of s x) r.ready.0.1.3 0

  even_held : {e : ℤ} → e ≡ even_of s ws x → Held w32 e (even_of s ws x)
  even_held p = known p (fit_abs (omega (arith, even_word)))

pub product-p-requires : goal.product-p-requires
product-p-requires c =
    let e : back w32 c.args.x ≡ c.args.x = held (arg c.ranges.x) in
    let r : Ready c.args.s (values c.args.words.now) c.args.x = record { ready = c.requires } in
    let word = even_held r (rw e at c.even-e.ensures.word) in
    rw (e, held word) (c.requires.0.1.0, even_word r, c.requires.0.0)

pub returns-clause-mark : goal.returns-clause-mark
returns-clause-mark c =
    let e : back w32 c.args.x ≡ c.args.x = held (arg c.ranges.x) in
    let r : Ready c.args.s (values c.args.words.now) c.args.x = record { ready = c.requires } in
    let word = even_held r (rw e at c.even-e.ensures.word) in
    or_whole c.args.s c.even-e.result.loose c.product-p.result.loose
    ∙ ap₂ ◌&&◌ (rw e at c.even-e.ensures.mark) (rw (e, held word) at c.product-p.ensures.mark)
