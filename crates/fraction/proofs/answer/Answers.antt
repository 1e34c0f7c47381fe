-- `fraction::answer` meets its contract: the walk outward from b_k, with v1 and the other v's of the mode.
use Rattle.whole.proofs.Basics.{◌≡◌, ◌∙◌, ap, true, cond, List, [], ℕ, ◌*◌, ◌/◌, arith, length, get_or, ℤ, w32, SFits}
use Rattle.whole.proofs.Fit.{fit_abs}
use Rattle.whole.proofs.Held.{back, held, arg, known}
use Rattle.word.specs.Words.{product_of}
use Rattle.word.specs.Exact.{exact_product, square_exact, whole_at}
use Rattle.stored.specs.Words.{value, values}
use Rattle.stored.proofs.ValuesLaws.{length-values}
use Rattle.fraction.specs.Fraction.{b_at, first_of, rest_of}
use Rattle.fraction.specs.Exact.{square_used}
use Rattle.fraction.specs.Ready.{OutwardReady, FractionReady}
use Rattle.fraction.proofs.WalkLaws.{b_is, first_rest}
use Rattle.fraction.proofs.ExactWalk.{square_mark}
use Rattle.fraction.proofs.StaysInRange.{rest_word, walk_ready}
use Rattle.fraction.proofs.answer.Goals as goal

-- what is handed to `outward`: the v's, the innermost word and the square's mark
module _ (words : List (List ℕ)) {s mode : ℕ} {x : ℤ} (r : FractionReady s mode (values words) (length words / 2) x) (f : SFits w32 x) where
  abbrev k : ℕ
  k = length words / 2

  abbrev ws : List ℤ
  ws = values words

  abbrev square : ℤ
  square = product_of s x x

  ready : OutwardReady s (first_of mode x square) (rest_of mode x square) ws k (b_at ws k)
  ready = walk_ready s mode ws k x r

  rest_is : {y : ℤ} → y ≡ rest_of mode (back w32 x) (product_of s (back w32 x) (back w32 x)) → back w32 y ≡ rest_of mode x square
  rest_is e = held {w = w32} (known (rw (held (arg f)) at e) (fit_abs (omega (arith, ready.rest_word))))

  first_is : {z y : ℤ} → z ≡ rest_of mode (back w32 x) (product_of s (back w32 x) (back w32 x)) → y ≡ first_of mode (back w32 x) (back w32 z) → back w32 y ≡ first_of mode x square
  first_is g e = held {w = w32} (known ((rw (held (arg f), rest_is g) at e) ∙ first_rest x square mode) (fit_abs (omega (arith, ready.first_word))))

  t_is : {y : ℤ} → y ≡ value (get_or words (2 * k) []) → back w32 y ≡ b_at ws k
  t_is e = held {w = w32} (known (e ∙ b_is words k (omega (arith, r.room, length-values words))) (fit_abs (omega (arith, ready.t_word))))

  mark_is : (y z : ℕ) → whole_at s y ≡ rest_of mode true (exact_product s (back w32 x) (back w32 x)) → z ≡ cond (square_used mode k) y 0 → whole_at s z ≡ square_exact (square_used mode k) s x
  mark_is y z g e = ap (whole_at s) e ∙ square_mark s mode k y x (rw (held (arg f)) at g)

-- ---- the goals
pub rest_of-rest-requires : goal.rest_of-rest-requires
rest_of-rest-requires c = let r = c.requires in rw (held (arg c.ranges.x)) (r.scale, r.x_word, rest_word _ _ _ _ _ r)

pub outward-requires : goal.outward-requires
outward-requires c =
    let b = c.args.words.now in
    let r = c.requires in
    let f = c.ranges.x in
    let g = c.rest_of-rest.ensures.word in
    rw (first_is b r f g c.first_of-first.ensures, rest_is b r f g, t_is b r f c.value-t.ensures) (ready b r f)

pub returns-clause-word : goal.returns-clause-word
returns-clause-word c =
    let b = c.args.words.now in
    let r = c.requires in
    let f = c.ranges.x in
    let g = c.rest_of-rest.ensures.word in
    rw (first_is b r f g c.first_of-first.ensures, rest_is b r f g, t_is b r f c.value-t.ensures) at c.outward.ensures.word

pub returns-clause-mark : goal.returns-clause-mark
returns-clause-mark c =
    let b = c.args.words.now in
    let r = c.requires in
    let f = c.ranges.x in
    let g = c.rest_of-rest.ensures.word in
    let m = mark_is b r f _ _ c.rest_of-rest.ensures.mark c.counted-loose.ensures in
    rw (m, first_is b r f g c.first_of-first.ensures, rest_is b r f g, t_is b r f c.value-t.ensures) at c.outward.ensures.mark
