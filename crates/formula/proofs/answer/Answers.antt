-- `formula::answer` meets its contract: what each kind's own answer asks, over as many words as the kind has.
use Rattle.whole.proofs.Basics.{◌≡◌, ◌∙◌, sym, ap, ap₂, refl, Bool, List, ℕ, ◌-◌, ◌/◌, arith, length, take, drop, ℤ, w32, SFits}
use lib.Seq.{take_all}
use Rattle.std.proofs.lemmas.List.{length-drop}
use Rattle.whole.proofs.Held.{back, held, arg}
use Rattle.stored.specs.Words.{values}
use Rattle.stored.proofs.ValuesLaws.{length-values, values_take, values_rest}
use Rattle.polynomial.specs.Polynomial.{PolynomialReady}
use Rattle.rational.specs.Rational.{RationalReady, rational_of}
use Rattle.rational.specs.Exact.{rational_exact}
use Rattle.odd_even.specs.OddEven.{odd_of, EvenReady, OddReady}
use Rattle.odd_even.specs.Exact.{odd_exact}
use Rattle.fraction.specs.Ready.{FractionReady}
use Rattle.formula.specs.Formula.{answer_by, steps_by, worked, worked_of, word_count, Answerable}
use Rattle.formula.specs.Exact.{exact_by}
use Rattle.formula.specs.declared.Kind.{Kind}
use Rattle.formula.specs.declared.Kind.TheVariants.{Polynomial, Rational, Fraction, Odd, Even}
use Rattle.formula.specs.declared.Shape.{Shape}
use Rattle.formula.specs.declared.Worked.{Worked}
use Rattle.formula.proofs.ReadyLaws.{polynomial_ready, rational_ready, fraction_ready, odd_ready, even_ready}
use Rattle.formula.proofs.answer.Goals as goal

-- ---- over plain numbers: what the call has
record Asked (s : ℕ) (h : Shape) (words : List (List ℕ)) (x : ℤ) : Type 0 where
  count : length words ≡ word_count h.kind h.p h.q
  ready : Answerable s h (values words) x
  range : SFits w32 x

asked : {s : ℕ} (h : Shape) (words : List (List ℕ)) {x : ℤ} → (length words ≡ word_count h.kind h.p h.q) × Answerable s h (values words) x → SFits w32 x → Asked s h words x
asked h words f r = record { count = f.0; ready = f.1; range = r }

stepless : {w y : ℤ} {b e : Bool} → w ≡ y → b ≡ e → worked w 0 b ≡ worked y 0 e
stepless f g = ap₂ (λ (z : ℤ) (u : Bool). worked z 0 u) f g

module _ {s : ℕ} {h : Shape} {words : List (List ℕ)} {x : ℤ} (a : Asked s h words x) where
  abbrev ws : List ℤ
  ws = values words

  x_is : back w32 x ≡ x
  x_is = held (arg a.range)

  -- as many words as the kind has
  count_is : (k : Kind) → h.kind ≡ k → length words ≡ word_count k h.p h.q
  count_is k e = a.count ∙ ap (λ (j : Kind). word_count j h.p h.q) e

  -- all of them, of a kind whose first count is that of its words
  one_list : (k : Kind) → word_count k h.p h.q ≡ h.p → h.kind ≡ k → take h.p ws ≡ ws
  one_list k n e = take_all h.p ws (omega (arith, length-values words, count_is k e))

  -- what a kind asks, at the argument as it is read
  polynomial_asks : h.kind ≡ Polynomial → PolynomialReady s ws (back w32 x)
  polynomial_asks e = rw (x_is, ← one_list Polynomial refl e) (polynomial_ready s h ws x a.ready e)

  -- the divisor's words: those behind the numerator's, all of them
  divisor_is : h.kind ≡ Rational → values (take (length words - h.p) (drop h.p words)) ≡ take h.q (drop h.p ws)
  divisor_is e = values_rest h.p words ∙ sym (take_all h.q (drop h.p ws) (omega (arith, length-drop h.p ws, length-values words, count_is Rational e)))

  rational_asks : h.kind ≡ Rational → RationalReady s (values (take h.p words)) (values (take (length words - h.p) (drop h.p words))) (back w32 x)
  rational_asks e = rw (x_is, values_take h.p words, divisor_is e) (rational_ready s h ws x a.ready e)

  fraction_asks : h.kind ≡ Fraction → FractionReady s h.mode ws (length words / 2) (back w32 x)
  fraction_asks e = let depth : length words / 2 ≡ h.p = omega (arith, count_is Fraction e) in rw (x_is, depth) (fraction_ready s h ws x a.ready e)

  odd_asks : h.kind ≡ Odd → OddReady s ws (back w32 x)
  odd_asks e = rw (x_is, ← one_list Odd refl e) (odd_ready s h ws x a.ready e)

  even_asks : h.kind ≡ Even → EvenReady s ws (back w32 x)
  even_asks e = rw (x_is, ← one_list Even refl e) (even_ready s h ws x a.ready e)

  -- what it answers there is what the whole does
  abbrev by_kind : Kind → ℤ → Worked
  by_kind k z = worked (answer_by k s h.p h.q h.mode ws z) (steps_by k s z) (exact_by k s h.p h.q h.mode ws z)

  whole : (k : Kind) → h.kind ≡ k → by_kind k (back w32 x) ≡ worked_of s h ws x
  whole k e = ap₂ by_kind (sym e) x_is

-- ---- the goals
pub answer-requires : goal.answer-requires
answer-requires c = polynomial_asks (asked c.args.shape c.args.words.now c.requires c.ranges.x) c.in-Polynomial.is

pub answer-requires-in-Rational : goal.answer-requires-in-Rational
answer-requires-in-Rational c = rational_asks (asked c.args.shape c.args.words.now c.requires c.ranges.x) c.in-Rational.is

pub returns-in-Rational : goal.returns-in-Rational
returns-in-Rational c =
    let s = c.args.s in
    let k = asked c.args.shape c.args.words.now c.requires c.ranges.x in
    let e = c.in-Rational.is in
    let x = back w32 c.args.x in
    let n = values_take c.args.shape.p c.args.words.now in
    let d = divisor_is k e in
    c.without_steps-in-Rational.ensures
    ∙ stepless (c.answer-in-Rational.ensures.word ∙ ap₂ (λ (y z : List ℤ). rational_of s y z x) n d) (c.answer-in-Rational.ensures.mark ∙ ap₂ (λ (y z : List ℤ). rational_exact s y z x) n d)
    ∙ whole k Rational e

pub answer-requires-in-Fraction : goal.answer-requires-in-Fraction
answer-requires-in-Fraction c = fraction_asks (asked c.args.shape c.args.words.now c.requires c.ranges.x) c.in-Fraction.is

pub odd-requires : goal.odd-requires
odd-requires c = odd_asks (asked c.args.shape c.args.words.now c.requires c.ranges.x) c.in-Odd.is

pub even-requires : goal.even-requires
even-requires c = even_asks (asked c.args.shape c.args.words.now c.requires c.ranges.x) c.in-Even.is

pub returns-in-Odd : goal.returns-in-Odd
returns-in-Odd c =
    let s = c.args.s in
    let k = asked c.args.shape c.args.words.now c.requires c.ranges.x in
    let e = c.in-Odd.is in
    let l = sym (one_list k Odd refl e) in
    let x = back w32 c.args.x in
    c.without_steps-in-Odd.ensures
    ∙ stepless (c.odd.ensures.word ∙ ap (λ (z : List ℤ). odd_of s z x) l) (c.odd.ensures.mark ∙ ap (λ (z : List ℤ). odd_exact s z x) l)
    ∙ whole k Odd e
